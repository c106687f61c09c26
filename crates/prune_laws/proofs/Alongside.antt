-- A run and the run that prunes, side by side: what holds of both after the same events, and that a step of one node keeps it.
use Rattle.prune_laws.proofs.GoodViews.{Hears, sender_is}
use Rattle.prune_laws.proofs.LowRises.{decided_stays_own, low_rises, pruned_later}
use Rattle.prune_laws.proofs.PairedLists.{Paired, alike_length, alike_weaker, new_length, paired_append, paired_replicate, paired_weaker}
use Rattle.prune_laws.specs.PruneLaw.{IsDecidedIn}
use Rattle.si_laws.proofs.Order.CertifiedVersions.{BegunAt, begun_at, begun_there}
use Rattle.si_laws.proofs.Stages.LinkedStates.{one_of}
use Rattle.std.proofs.Common.{Bool, List, None, Some, [], ap, append-nil, arith, false, inl, inr, length, refl, replicate, slice_get, slice_set, subst, subst₂, sym, true, ℕ, ◌++◌, ◌+◌, ◌-◌, ◌∙◌, ◌∷◌, ◌≡◌, ◌≢◌, ◌≤◌, ◌⊎◌}
use Rattle.std.proofs.lemmas.Bool.{cases_eq}
use Rattle.str_base.proofs.Lists.{get_set, get_set_other, got_set}
use Rattle.str_base.specs.declared.names.NodeId.{NodeId}
use Rattle.str_base.specs.declared.names.TxId.{TxId}
use Rattle.str_base.specs.Members.{In}
use Rattle.str_model.specs.declared.messages.Input.{Input}
use Rattle.str_model.specs.declared.messages.Message.{Message}
use Rattle.str_model.specs.declared.names.Done.{Done}
use Rattle.str_model.specs.Owned.{Owns}
use Rattle.str_model.specs.PrunedRuns.{PrunedWorld, bound}
use Rattle.str_model.specs.Pruning.{low, pruned}
use Rattle.str_model.specs.Runs.{World, stepped}
use Rattle.str_model.specs.Steps.{step}
use Rattle.str_model.specs.Views.{Doing, View}
use Rattle.str_scene.specs.declared.names.Event.{Event}
use Rattle.str_scene.specs.Scenes.{Scene}
use Rattle.str_model.proofs.Principle.Everywhere.{at_place, stage_of}
use Rattle.str_model.proofs.Pruning.PruneBounds.{Raises, SameLength, bound_raises}
use Rattle.str_model.proofs.Pruning.Twins.{AllAlike, Twin, alike_append}

-- the view of the n-th node, and what the node that prunes has in its place
pub record Beside (vs us : List View) (rows : List (List ℕ)) (n : ℕ) (v : View) : Type 0 where
  pub row : List ℕ
  pub heard : slice_get rows n ≡ Some row
  pub view : slice_get us n ≡ Some (pruned (bound (low v) n row) v)
  pub hears : Hears vs n row

-- what a message carries is at or below its sender's low mark
abbrev pub Carries : List View → Message → ℕ → Type 0
Carries vs m l = (v : View) → slice_get vs (m.sender.0 - 1) ≡ Some v → l ≤ low v

-- what holds of both after the same events
pub record Alongside (w : World) (p : PrunedWorld) : Type 0 where
  pub nodes : (n : ℕ) (v : View) → slice_get w.nodes n ≡ Some v → Beside w.nodes p.world.nodes p.heard n v
  pub none : (n : ℕ) → slice_get w.nodes n ≡ None → slice_get p.world.nodes n ≡ None
  pub carried : Paired (Carries w.nodes) p.world.sent p.carried
  pub sent : AllAlike (IsDecidedIn w) w.sent p.world.sent
  pub given : p.world.given ≡ w.given
  pub journal : p.world.journal ≡ w.journal
  pub answers : p.world.answers ≡ w.answers

-- an event leads from both to both, and sends alike
pub record Follows (w : World) (p : PrunedWorld) (v : World) (q : PrunedWorld) : Type 0 where
  pub after : Alongside v q
  pub new : List Message
  pub pruned_new : List Message
  pub sent : v.sent ≡ w.sent ++ new
  pub pruned_sent : q.world.sent ≡ p.world.sent ++ pruned_new
  pub alike : AllAlike (IsDecidedIn w) new pruned_new

-- the state with other flags of what was given
abbrev pub regiven : List Bool → World → World
regiven gs w = record w { given = gs }

-- an idle event
pub rested : (w : World) (p : PrunedWorld) (e : Event) (i j : ℕ) (gs hs : List Bool) → hs ≡ gs → Alongside w p
    → Follows w p (stepped e i (regiven gs w) None) (record p { world = stepped e j (regiven hs p.world) None })
rested w p e i j gs hs q a =
    record {
      after = record {
        nodes = a.nodes;
        none = a.none;
        carried = a.carried;
        sent = a.sent;
        given = q;
        journal = ap (λ (xs : List Done). xs ++ record { event = e; idle = true; answers = 0 } ∷ []) a.journal;
        answers = a.answers;
      };
      new = [];
      pruned_new = [];
      sent = sym (append-nil w.sent);
      pruned_sent = sym (append-nil p.world.sent);
      alike = tt;
    }

-- the state with the i-th node's view pruned, its messages with its low mark, and the row of what it has heard
abbrev pub thinned : PrunedWorld → World → ℕ → List ℕ → View → PrunedWorld
thinned p w i row v =
    record {
      world = record w { nodes = slice_set w.nodes i (pruned (bound (low v) i row) v) };
      carried = p.carried ++ replicate (length w.sent - length p.world.sent) (low v);
      heard = slice_set p.heard i row;
    }

-- an event that the i-th node takes
module _ (scene : Scene) (w : World) (p : PrunedWorld) (a : Alongside w p) (e : Event) (i : ℕ) (v : View) (at : slice_get w.nodes i ≡ Some v)
    (b : Beside w.nodes p.world.nodes p.heard i v) (input again : Input) (row : List ℕ) (hears : Hears w.nodes i row) (long : SameLength b.row row) (more : Raises b.row row)
    (d f : Doing) (is : step (at_place scene i) input v ≡ Some d) (pruned_is : step (at_place scene i) again (pruned (bound (low v) i b.row) v) ≡ Some f)
    (twins : Twin (bound (low v) i b.row) (IsDecidedIn w) d f) (gs hs : List Bool) (same_given : hs ≡ gs) where
  up : low v ≤ low d.view
  up = low_rises (at_place scene i) input v d is

  same_low : low f.view ≡ low d.view
  same_low = sym (ap low twins.view)

  -- the node's view afterwards
  now_pruned : pruned (bound (low f.view) i row) f.view ≡ pruned (bound (low d.view) i row) d.view
  now_pruned =
      let le = bound_raises (low v) (low d.view) i b.row row up long more in
      ap (λ (l : ℕ). pruned (bound l i row) f.view) same_low ∙ sym (pruned_later (bound (low v) i b.row) (bound (low d.view) i row) d.view f.view le twins.view)

  still_hears : (n : ℕ) (r : List ℕ) → Hears w.nodes n r → Hears (slice_set w.nodes i d.view) n r
  still_hears n r h m u g =
      elim (got_set w.nodes i m d.view u g) [
        | inl q ↦ (let c = h m v (ap (λ (k : ℕ). slice_get w.nodes k) q.0 ∙ at) in
            (c.0, c.1, λ other. let k = c.2 other in let l : low u ≡ low d.view = ap low q.1 in let r = up in omega (arith, k, l, r)))
        | inr q ↦ h m u q.1
      ]

  beside_now : (n : ℕ) (u : View) → slice_get (slice_set w.nodes i d.view) n ≡ Some u
      → Beside (slice_set w.nodes i d.view) (slice_set (slice_set p.world.nodes i f.view) i (pruned (bound (low f.view) i row) f.view)) (slice_set p.heard i row) n u
  beside_now n u g = elim (got_set w.nodes i n d.view u g) [ inl q ↦ subst₂ At (sym q.0) (sym q.1) here | inr q ↦ other q.0 (a.nodes n u q.1) ]
    where
      At : ℕ → View → Type 0
      At m z = Beside (slice_set w.nodes i d.view) (slice_set (slice_set p.world.nodes i f.view) i (pruned (bound (low f.view) i row) f.view)) (slice_set p.heard i row) m z

      here : At i d.view
      here =
          record {
            row = row;
            heard = get_set p.heard i b.row row b.heard;
            view = get_set (slice_set p.world.nodes i f.view) i f.view (pruned (bound (low f.view) i row) f.view) (get_set p.world.nodes i (pruned (bound (low v) i b.row) v) f.view b.view)
                ∙ ap (λ (z : View). Some z) now_pruned;
            hears = still_hears i row hears;
          }

      other : n ≢ i → Beside w.nodes p.world.nodes p.heard n u → At n u
      other ne c =
          record {
            row = c.row;
            heard = get_set_other p.heard i n row ne ∙ c.heard;
            view = get_set_other (slice_set p.world.nodes i f.view) i n (pruned (bound (low f.view) i row) f.view) ne ∙ (get_set_other p.world.nodes i n f.view ne ∙ c.view);
            hears = still_hears n c.row c.hears;
          }

  none_now : (n : ℕ) → slice_get (slice_set w.nodes i d.view) n ≡ None → slice_get (slice_set (slice_set p.world.nodes i f.view) i (pruned (bound (low f.view) i row) f.view)) n ≡ None
  none_now n g = by_place (cases_eq n i)
    where
      by_place : (n ≡ i) ⊎ (n ≢ i) → slice_get (slice_set (slice_set p.world.nodes i f.view) i (pruned (bound (low f.view) i row) f.view)) n ≡ None
      by_place (inl q) = absurd (cc (g, ap (λ (k : ℕ). slice_get (slice_set w.nodes i d.view) k) q, get_set w.nodes i v d.view at))
      by_place (inr q) =
          get_set_other (slice_set p.world.nodes i f.view) i n (pruned (bound (low f.view) i row) f.view) q ∙ (get_set_other p.world.nodes i n f.view q ∙ a.none n (sym (get_set_other w.nodes i n d.view q) ∙ g))

  carried_now : Paired (Carries (slice_set w.nodes i d.view)) (p.world.sent ++ f.sent) (p.carried ++ replicate (length (p.world.sent ++ f.sent) - length p.world.sent) (low f.view))
  carried_now =
      paired_append (Carries (slice_set w.nodes i d.view)) p.world.sent p.carried f.sent (replicate (length (p.world.sent ++ f.sent) - length p.world.sent) (low f.view))
      (paired_weaker (Carries w.nodes) (Carries (slice_set w.nodes i d.view)) still p.world.sent p.carried a.carried)
      (subst (λ (n : ℕ). Paired (Carries (slice_set w.nodes i d.view)) f.sent (replicate n (low f.view))) (new_length p.world.sent f.sent)
      (paired_replicate (Carries (slice_set w.nodes i d.view)) f.sent (low f.view) fresh_))
    where
      still : (m : Message) (l : ℕ) → Carries w.nodes m l → Carries (slice_set w.nodes i d.view) m l
      still m l h u g =
          elim (got_set w.nodes i (m.sender.0 - 1) d.view u g) [
            | inl q ↦ (let c = h v (ap (λ (k : ℕ). slice_get w.nodes k) q.0 ∙ at) in let s : low u ≡ low d.view = ap low q.1 in let r = up in omega (arith, c, s, r))
            | inr q ↦ h u q.1
          ]

      fresh_ : (m : Message) → In m f.sent → Carries (slice_set w.nodes i d.view) m (low f.view)
      fresh_ m k u g =
          let node : m.sender.0 ≡ i + 1 = ap (λ (z : NodeId). z.0) (sender_is (at_place scene i) again (pruned (bound (low v) i b.row) v) f pruned_is m k) in
          elim (got_set w.nodes i (m.sender.0 - 1) d.view u g) [
            | inl q ↦ (let s : low u ≡ low d.view = ap low q.1 in let r = same_low in omega (arith, s, r))
            | inr q ↦ absurd (q.0 (omega (arith, node)))
          ]

  -- who had a decision has it still
  decided_now : (t : TxId) → IsDecidedIn w t → IsDecidedIn (stepped e i (regiven gs w) (Some d)) t
  decided_now t c = by_place (cases_eq s.n i)
    where
      s : BegunAt scene (stage_of w) t c.0
      s = begun_at scene w t c.0 c.1

      by_place : (s.n ≡ i) ⊎ (s.n ≢ i) → IsDecidedIn (stepped e i (regiven gs w) (Some d)) t
      by_place (inl q) =
          let same : s.view ≡ v = one_of s.view v (slice_get w.nodes s.n) s.there (ap (λ (k : ℕ). slice_get w.nodes k) q ∙ at) in
          let own : Owns d.view s.i c.0 = decided_stays_own (at_place scene i) input v d is s.i c.0 c.2 (subst (λ (z : View). Owns z s.i c.0) same s.own) in
          let there : slice_get (slice_set w.nodes i d.view) s.n ≡ Some d.view = ap (λ (k : ℕ). slice_get (slice_set w.nodes i d.view) k) q ∙ get_set w.nodes i v d.view at in
          (c.0, begun_there scene (stepped e i (regiven gs w) (Some d)) t c.0 s.n s.i d.view there own s.name, c.2)
      by_place (inr q) =
          let there : slice_get (slice_set w.nodes i d.view) s.n ≡ Some s.view = get_set_other w.nodes i s.n d.view q ∙ s.there in
          (c.0, begun_there scene (stepped e i (regiven gs w) (Some d)) t c.0 s.n s.i s.view there s.own s.name, c.2)

  pub acted : Follows w p (stepped e i (regiven gs w) (Some d)) (thinned p (stepped e i (regiven hs p.world) (Some f)) i row f.view)
  acted =
      record {
        after = record {
          nodes = beside_now;
          none = none_now;
          carried = carried_now;
          sent = alike_append (IsDecidedIn (stepped e i (regiven gs w) (Some d))) w.sent p.world.sent d.sent f.sent
              (alike_weaker (IsDecidedIn w) (IsDecidedIn (stepped e i (regiven gs w) (Some d))) decided_now w.sent p.world.sent a.sent)
              (alike_weaker (IsDecidedIn w) (IsDecidedIn (stepped e i (regiven gs w) (Some d))) decided_now d.sent f.sent twins.sent);
          given = let n = sym (alike_length (IsDecidedIn w) d.sent f.sent twins.sent) in (λ j. same_given j ++ replicate (n j) false);
          journal = let r : f.released ≡ d.released = sym twins.released in (λ j. a.journal j ++ record { event = e; idle = false; answers = length (r j) } ∷ []);
          answers = let r : f.released ≡ d.released = sym twins.released in (λ j. a.answers j ++ r j);
        };
        new = d.sent;
        pruned_new = f.sent;
        sent = refl;
        pruned_sent = refl;
        alike = twins.sent;
      }

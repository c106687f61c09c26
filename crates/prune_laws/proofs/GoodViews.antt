-- In a run each node's view is good for a step that prunes at its bound, and so is each message.
use Rattle.prune_laws.proofs.LowRises.{path_of}
use Rattle.prune_laws.specs.PruneLaw.{IsDecidedIn}
use Rattle.si_laws.proofs.Marks.ReplyMarks.{HasRs, far_reads}
use Rattle.si_laws.proofs.Order.CertifiedVersions.{begun_there}
use Rattle.si_laws.proofs.Sources.LetterSources.{letter-act}
use Rattle.si_laws.proofs.Stages.AllLinksKept.{linked}
use Rattle.si_laws.proofs.Stages.LinkedStates.{AreWrites, Told, one_of}
use Rattle.std.proofs.Common.{Bool, List, Some, ap, arith, false, inl, inr, refl, slice_get, subst, subst₂, sym, true, ℕ, ◌∙◌, ◌≡◌, ◌≢◌, ◌≤◌, ◌⊎◌}
use Rattle.std.proofs.lemmas.Bool.{cases_eq}
use Rattle.str_base.proofs.Lists.{get_set, get_set_other, got_replicate, got_set}
use Rattle.str_base.proofs.Members.{in_at}
use Rattle.str_base.specs.declared.names.PartId.{PartId}
use Rattle.str_base.specs.declared.names.TxId.{TxId}
use Rattle.str_base.specs.declared.names.Write.{Write}
use Rattle.str_base.specs.Members.{In}
use Rattle.str_model.specs.declared.messages.Body.{Body}
use Rattle.str_model.specs.declared.messages.Body.TheVariants.{Abort, Ack, Commit, Prepare, ReadReply, ReadReq, Refuse as Refusal, Replicate}
use Rattle.str_model.specs.declared.messages.Input.{Input}
use Rattle.str_model.specs.declared.messages.Input.TheVariants.{Client, Deliver}
use Rattle.str_model.specs.declared.messages.Message.{Message}
use Rattle.str_model.specs.declared.messages.Waiter.{Waiter}
use Rattle.str_model.specs.declared.messages.Waiter.TheVariants.{Held, Read}
use Rattle.str_model.specs.PrunedRuns.{bound}
use Rattle.str_model.specs.Pruning.{low}
use Rattle.str_model.specs.Runs.{opening_view, run}
use Rattle.str_model.specs.Steps.{step}
use Rattle.str_model.specs.Views.{Doing, View, is_decided, starts}
use Rattle.str_scene.specs.declared.names.Event.{Event}
use Rattle.str_scene.specs.Scenes.{Here, Scene}
use Rattle.str_model.proofs.Principle.Everywhere.{IsSeen, Stage, at_place, during, everywhere, stage_of}
use Rattle.str_model.proofs.Principle.SingleChanges.{Act, Where}
use Rattle.str_model.proofs.Principle.StepPaths.{step-keeps}
use Rattle.str_model.proofs.Pruning.PruneBounds.{bound_heard, bound_own}
use Rattle.str_model.proofs.Pruning.PruneGood.{Finals, finals-act}
use Rattle.str_model.proofs.Pruning.PruneKept.{above_low, order-act}
use Rattle.str_model.proofs.Pruning.PruneOrder.{InOrder}
use Rattle.str_model.proofs.Pruning.TwinGood.{BodyHigh, Good, InputHigh}
use Rattle.str_model.proofs.Pruning.TwinTurns.{Far}

-- ---- what holds of every view of a run

-- Final versions are of pairs that are done, and the versions are in order
AreSettled : Scene → Stage → Type 0
AreSettled scene s = (n : ℕ) (v : View) → slice_get s.nodes n ≡ Some v → Finals (at_place scene n) v × InOrder v.versions

settled_step : (scene : Scene) (s : Stage) (i : ℕ) (v : View) (input : Input) (w : Where) (d e : Doing) → slice_get s.nodes i ≡ Some v → IsSeen s input → AreSettled scene s
    → Act (at_place scene i) input w d e → AreSettled scene (during s i d) → AreSettled scene (during s i e)
unfolding AreSettled
settled_step scene s i v input w d e is seen hs a h n u g =
    elim (got_set s.nodes i n e.view u g) [
      | inl q ↦ (let o = h i d.view (get_set s.nodes i v d.view is) in
          subst₂ (λ (m : ℕ) (z : View). Finals (at_place scene m) z × InOrder z.versions) (sym q.0) (sym q.1) (finals-act (at_place scene i) input w d e a o.0, order-act (at_place scene i) input w d e a o.1))
      | inr q ↦ h n u (get_set_other s.nodes i n d.view q.0 ∙ q.1)
    ]

settled_at : (scene : Scene) (es : List Event) (n : ℕ) (v : View) → slice_get (run scene es).nodes n ≡ Some v → Finals (at_place scene n) v × InOrder v.versions
unfolding AreSettled
settled_at scene es =
    everywhere scene (AreSettled scene) (settled_step scene)
    (λ n v g. subst (λ (z : View). Finals (at_place scene n) z × InOrder z.versions) (sym (got_replicate scene.nodes n (opening_view scene) v g)) (λ q m k. absurd m, tt)) es

-- ---- what a node has heard

-- a number of each node, at or below its low mark where it is another one
abbrev pub Hears : List View → ℕ → List ℕ → Type 0
Hears vs n row = (m : ℕ) (u : View) → slice_get vs m ≡ Some u → (h : ℕ) × (slice_get row m ≡ Some h) × (m ≢ n → h ≤ low u)

-- a message of a step is its node's
pub sender_is : (here : Here) (input : Input) (v : View) (d : Doing) → step here input v ≡ Some d → (m : Message) → In m d.sent → m.sender ≡ here.node
sender_is here input v d q =
    step-keeps here input (λ e. (m : Message) → In m e.sent → m.sender ≡ here.node)
    (λ w a b act h m i. elim (letter-act here input w a b act m i) [ inl j ↦ h m j | inr r ↦ r.sender ])
    (starts v) d (path_of here input v d q) (λ m k. absurd k)

certified_rs : (scene : Scene) (s : Stage) (tx : TxId) (p : PartId) (rs lc : ℕ) (ws : List Write) → AreWrites scene s tx p rs lc ws → HasRs scene s tx rs
certified_rs scene s tx p rs lc ws a =
    let c = a.1 in record { n = c.n; i = c.i; view = c.view; x = c.x; there = c.there; own = c.own; name = c.name; rs_is = c.rs_is }

module _ (scene : Scene) (es : List Event) (n : ℕ) (v : View) (row : List ℕ) (at : slice_get (run scene es).nodes n ≡ Some v) (hears : Hears (run scene es).nodes n row) where
  -- the transaction has its decision, or its snapshot is at or above the bound
  high_at : (tx : TxId) (rs : ℕ) → HasRs scene (stage_of (run scene es)) tx rs → IsDecidedIn (run scene es) tx ⊎ (bound (low v) n row ≤ rs)
  high_at tx rs h = by_phase (is_decided h.x.phase) refl
    where
      by_place : (h.n ≡ n) ⊎ (h.n ≢ n) → low h.view ≤ rs → bound (low v) n row ≤ rs
      by_place (inl q) le =
          let same : v ≡ h.view = one_of v h.view (slice_get (run scene es).nodes n) at (ap (λ (k : ℕ). slice_get (run scene es).nodes k) (sym q) ∙ h.there) in
          let l : low v ≡ low h.view = ap low same in
          let b = bound_own (low v) n row in omega (arith, l, b, le)
      by_place (inr q) le =
          let c = hears h.n h.view h.there in
          let b = bound_heard (low v) n row h.n c.0 q c.1 in
          let k = c.2 q in omega (arith, b, k, le)

      by_phase : (z : Bool) → is_decided h.x.phase ≡ z → IsDecidedIn (run scene es) tx ⊎ (bound (low v) n row ≤ rs)
      by_phase true z = inl (h.x, begun_there scene (run scene es) tx h.x h.n h.i h.view h.there h.own h.name, z)
      by_phase false z = inr (by_place (cases_eq h.n n) (let a = (above_low h.view).open_ h.i h.x h.own z in let r = h.rs_is in omega (arith, a, r)))

  pub high_input : (input : Input) → IsSeen (stage_of (run scene es)) input → InputHigh (bound (low v) n row) (IsDecidedIn (run scene es)) input
  high_input (Client s t) seen = tt
  high_input (Deliver m) seen = by_body m.body refl
    where
      sent : In m (run scene es).sent
      sent = in_at (run scene es).sent seen.0 m seen.1

      by_body : (b : Body) → m.body ≡ b → BodyHigh (bound (low v) n row) (IsDecidedIn (run scene es)) b
      by_body (ReadReq tx k rs) q = high_at tx rs.0 ((far_reads scene es).requests m sent tx k rs q)
      by_body (Prepare tx p rs lc ws) q =
          high_at tx rs.0 (certified_rs scene (stage_of (run scene es)) tx p rs.0 lc.0 ws
          (subst (λ (b : Body). Told scene (stage_of (run scene es)) m.sender m.receiver b) q ((linked scene es).told m sent)))
      by_body (ReadReply tx k a by fc) q = tt
      by_body (Refusal tx p by k) q = tt
      by_body (Replicate tx p rs lc ws) q = tt
      by_body (Ack tx p ts) q = tt
      by_body (Commit tx p fc ms) q = tt
      by_body (Abort tx p) q = tt

  pub good_at : Good (bound (low v) n row) (IsDecidedIn (run scene es)) (at_place scene n) v
  good_at =
      let b = bound_own (low v) n row in
      let a = above_low v in
      let f = a.floor in
      record {
        above = record { floor = omega (arith, b, f); open_ = λ i x q z. let o = a.open_ i x q z in omega (arith, b, o) };
        finals = (settled_at scene es n v at).0;
        order = (settled_at scene es n v at).1;
        far = waits_far;
      }
    where
      waits_far : (w : Waiter) → In w v.waiters → Far (bound (low v) n row) (IsDecidedIn (run scene es)) w
      waits_far (Read tx k rs) i = high_at tx rs.0 ((far_reads scene es).waiting n v at tx k rs i).0
      waits_far (Held a) i = high_at a.tx a.rs.0 (certified_rs scene (stage_of (run scene es)) a.tx a.part a.rs.0 a.lc.0 a.writes ((linked scene es).held n v at a i).0)

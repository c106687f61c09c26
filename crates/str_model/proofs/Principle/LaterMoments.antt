-- What each change keeps is kept from one moment of a trace to each later one of the same node.
use Rattle.std.proofs.Common.{List, None, Option, Some, [], add-sub_cancel, ap, append_assoc, arith, inl, inr, length, refl, slice_get, slice_set, subst, suc, sym, zero, ℕ, ◌++◌, ◌+◌, ◌-◌, ◌<◌, ◌∙◌, ◌∷◌, ◌≡◌, ◌≤◌, ◌⊎◌}
use Rattle.std.proofs.lemmas.Option.{slice_get_within}
use Rattle.str_base.specs.declared.names.NodeId.{NodeId}
use Rattle.str_scene.specs.declared.names.Event.{Event}
use Rattle.str_scene.specs.SceneLimits.{IsScene}
use Rattle.str_scene.specs.Scenes.{Here, Scene}
use Rattle.str_model.specs.declared.messages.Input.{Input}
use Rattle.str_model.specs.Moments.{from_rule, moments_of}
use Rattle.str_model.specs.Steps.{rule}
use Rattle.str_model.specs.Runs.{World, happens, opening, run, run_from}
use Rattle.str_model.specs.Traces.{Earlier, Happening, MomentAt, trace, trace_from}
use Rattle.str_model.specs.Views.{Doing, View, starts}
use Rattle.str_model.proofs.Principle.SingleChanges.{Act, Where, along}
use Rattle.str_model.proofs.Principle.AtMoments.{at_moments}
use Rattle.str_model.proofs.Principle.Everywhere.{IsSeen, Stage, at_place, during, during_start, everywhere, run-append, stage_of, stays_at}
use Rattle.str_model.proofs.Principle.NextMoments.{linked}
use Rattle.str_model.proofs.Principle.MomentPaths.{link_path}
use Rattle.str_model.proofs.Principle.TraceEvents.{Nth, Takes, Turns, ends_slice, event_turns, nobody, nth_of, somebody}
use Rattle.str_base.proofs.Lists.{get_set}
use Rattle.str_base.proofs.Members.{in_at}

-- the j-th event of a run, which node n took
pub record Took (scene : Scene) (es : List Event) (j : ℕ) (h : Happening) (n : NodeId) : Type 0 where
  pub from : Nth scene (opening scene) es j h
  pub takes : Takes scene (run scene from.early) from.event h (happens scene (run scene from.early) from.event)
  pub node : n ≡ record { 0 = takes.place + 1 }

pub took : (scene : Scene) (es : List Event) (j : ℕ) (h : Happening) (n : NodeId) → slice_get (trace scene es) j ≡ Some h → h.node ≡ Some n → Took scene es j h n
took scene es j h n q e = by_turn (subst (λ z. Turns scene (run scene r.early) r.event z (happens scene (run scene r.early) r.event)) (sym r.is) (event_turns scene (run scene r.early) r.event))
  where
    r : Nth scene (opening scene) es j h
    r = nth_of scene (opening scene) es j h q

    by_turn : Turns scene (run scene r.early) r.event h (happens scene (run scene r.early) r.event) → Took scene es j h n
    by_turn (nobody a b c) = absurd (cc (a, e))
    by_turn (somebody t) = record { from = r; takes = t; node = (let same : Some n ≡ Some (record { 0 = t.place + 1 }) = sym e ∙ t.node in cc same) }

opened : (here : Here) (input : Input) (v : View) → slice_get (from_rule here input (starts v) (rule here input (starts v))) 0 ≡ slice_get (moments_of here input v) 0
unfolding moments_of
opened here input v = refl

-- one before another of a list
pub got_below : {A : Type 0} (xs : List A) (n : ℕ) (b : A) → slice_get xs (suc n) ≡ Some b → (a : A) × (slice_get xs n ≡ Some a)
got_below [] n b e = absurd (cc e)
got_below (x ∷ xs) zero b e = (x, refl)
got_below (x ∷ xs) (suc n) b e = got_below xs n b e

-- two splits of one list
split_later : {A : Type 0} (xs ys zs ws : List A) (x z : A) → xs ++ x ∷ ys ≡ zs ++ z ∷ ws → length xs < length zs → (mid : List A) × (zs ≡ (xs ++ x ∷ []) ++ mid)
split_later xs ys [] ws x z e lt = absurd (omega (arith, lt))
split_later [] ys (y ∷ zs) ws x z e lt = let same : y ≡ x = cc e in (zs, ap (λ a. a ∷ zs) same)
split_later (a ∷ xs) ys (y ∷ zs) ws x z e lt =
    let same : y ≡ a = cc e in
    let rest : xs ++ x ∷ ys ≡ zs ++ z ∷ ws = cc e in
    let r = split_later xs ys zs ws x z rest (omega (arith, lt)) in
    (r.0, ap (λ b. b ∷ zs) same ∙ ap (λ bs. a ∷ bs) r.1)

module _ (scene : Scene) (ok : IsScene scene) (P : View → Type 0)
    (keeps : (here : Here) → IsScene here.scene → (input : Input) (w : Where) (d e : Doing) → Act here input w d e → P d.view → P e.view) where
  -- from one moment of a step to a later one
  within : (i : ℕ) (input : Input) (v : View) (k m : ℕ) (a b : Doing) → slice_get (moments_of (at_place scene i) input v) m ≡ Some a → slice_get (moments_of (at_place scene i) input v) (m + k) ≡ Some b
      → P a.view → P b.view
  within i input v zero m a b p q h = let same : Some a ≡ Some b = sym p ∙ (ap (λ n. slice_get (moments_of (at_place scene i) input v) n) plus_zero ∙ q) in let is : a ≡ b = cc same in subst (λ (z : Doing). P z.view) is h
    where
      plus_zero : m ≡ m + zero
      plus_zero = omega arith
  within i input v (suc k) m a b p q h =
      let here = at_place scene i in
      let next : slice_get (moments_of here input v) (suc (m + k)) ≡ Some b = ap (λ n. slice_get (moments_of here input v) n) plus_suc ∙ q in
      let c = got_below (moments_of here input v) (m + k) b next in
      let l = link_path here input (starts v) c.0 b (linked here input v (m + k) c.0 b c.1 next) in
      along here input l.0 (λ d. P d.view) (keeps here ok input l.0) c.0 b l.1 (within i input v k m a c.0 p c.1 h)
    where
      plus_suc : suc (m + k) ≡ m + suc k
      plus_suc = omega arith

  within_to : (i : ℕ) (input : Input) (v : View) (m m' : ℕ) (a b : Doing) → m ≤ m' → slice_get (moments_of (at_place scene i) input v) m ≡ Some a → slice_get (moments_of (at_place scene i) input v) m' ≡ Some b
      → P a.view → P b.view
  within_to i input v m m' a b le p q h =
      within i input v (m' - m) m a b p (ap (λ n. slice_get (moments_of (at_place scene i) input v) n) (sum le) ∙ q) h
    where
      sum : m ≤ m' → m + (m' - m) ≡ m'
      sum l = omega (arith, l)

  -- the end of an event
  pub to_end : (es : List Event) (j m : ℕ) (h : Happening) (n : NodeId) (d : Doing) (t : Took scene es j h n) → slice_get h.moments m ≡ Some d → P d.view → P t.takes.last.view
  to_end es j m h n d t q p =
      let ms = moments_of (at_place scene t.takes.place) t.takes.input t.takes.view in
      let at : slice_get ms m ≡ Some d = ap (λ xs. slice_get xs m) (sym t.takes.moments) ∙ q in
      let end : slice_get ms (length t.takes.ends.0) ≡ Some t.takes.last =
      ap (λ xs. slice_get xs (length t.takes.ends.0)) (sym t.takes.moments) ∙ ends_slice h.moments t.takes.last t.takes.ends in
      within_to t.takes.place t.takes.input t.takes.view m (length t.takes.ends.0) d t.takes.last (below (slice_get_within h.moments m d q)) at end p
    where
      below : m < length h.moments → m ≤ length t.takes.ends.0
      below lt = omega (arith, lt, ap length t.takes.ends.1, Rattle.std.proofs.Common.length-append t.takes.ends.0 (t.takes.last ∷ []))

  -- to a later event
  to_event : (es : List Event) (j j' m' : ℕ) (h h' : Happening) (n : NodeId) (d' : Doing) (t : Took scene es j h n) (t' : Took scene es j' h' n) → j < j' → slice_get h'.moments m' ≡ Some d' → P t.takes.last.view → P d'.view
  to_event es j j' m' h h' n d' t t' lt q p =
      let place : t'.takes.place ≡ t.takes.place = same_place (sym t'.node ∙ t.node) in
      let s = split_later t.from.early t.from.late t'.from.early t'.from.late t.from.event t'.from.event (sym t.from.all ∙ t'.from.all) (omega (arith, lt, t.from.number, t'.from.number)) in
      let w1 : World = happens scene (run scene t.from.early) t.from.event in
      let there : slice_get w1.nodes t.takes.place ≡ Some t.takes.last.view = ap (λ ns. slice_get ns t.takes.place) t.takes.after ∙ get_set (run scene t.from.early).nodes t.takes.place t.takes.view t.takes.last.view t.takes.is in
      let r = stays_at scene ok P keeps t.takes.place w1 t.takes.last.view s.0 there p in
      let run_is : run scene t'.from.early ≡ run_from scene w1 s.0 =
      ap (λ xs. run scene xs) s.1 ∙ (run-append scene (opening scene) (t.from.early ++ t.from.event ∷ []) s.0 ∙ ap (λ w. run_from scene w s.0) (run-append scene (opening scene) t.from.early (t.from.event ∷ []))) in
      let view : Some r.view ≡ Some t'.takes.view =
      sym r.there ∙ (ap (λ k. slice_get (run_from scene w1 s.0).nodes k) (sym place) ∙ (ap (λ w. slice_get w.nodes t'.takes.place) (sym run_is) ∙ t'.takes.is)) in
      let is : r.view ≡ t'.takes.view = cc view in
      at_moments (at_place scene t'.takes.place) t'.takes.input (λ d. P d.view) (keeps (at_place scene t'.takes.place) ok t'.takes.input) t'.takes.view (subst P is r.fact) d'
      (in_at (moments_of (at_place scene t'.takes.place) t'.takes.input t'.takes.view) m' d' (ap (λ xs. slice_get xs m') (sym t'.takes.moments) ∙ q))
    where
      same_place : {a b : ℕ} → ◌≡◌ {A = NodeId} (record { 0 = a + 1 }) (record { 0 = b + 1 }) → a ≡ b
      same_place {a} {b} e = let k : a + 1 ≡ b + 1 = ap (λ (z : NodeId). z.0) e in omega (arith, k)

  -- from a moment to a later one
  pub later : (es : List Event) (j m j' m' : ℕ) (n : NodeId) (d d' : Doing) → MomentAt (trace scene es) j m n d → MomentAt (trace scene es) j' m' n d' → (Earlier j m j' m') ⊎ ((j ≡ j') × (m ≡ m')) → P d.view → P d'.view
  later es j m j' m' n d d' a b (inl (inl lt)) p =
      let t = took scene es j a.0 n a.1 a.2 in to_event es j j' m' a.0 b.0 n d' t (took scene es j' b.0 n b.1 b.2) lt b.3 (to_end es j m a.0 n d t a.3 p)
  later es j m j' m' n d d' a b (inl (inr e)) p =
      let t = took scene es j a.0 n a.1 a.2 in
      let same : Some a.0 ≡ Some b.0 = sym a.1 ∙ (ap (λ k. slice_get (trace scene es) k) e.0 ∙ b.1) in
      let is : b.0 ≡ a.0 = cc same in
      within_to t.takes.place t.takes.input t.takes.view m m' d d' (omega (arith, e.1)) (ap (λ xs. slice_get xs m) (sym t.takes.moments) ∙ a.3)
      (ap (λ xs. slice_get xs m') (sym t.takes.moments) ∙ (ap (λ (z : Happening). slice_get z.moments m') (sym is) ∙ b.3)) p
  later es j m j' m' n d d' a b (inr e) p =
      let same : Some a.0 ≡ Some b.0 = sym a.1 ∙ (ap (λ k. slice_get (trace scene es) k) e.0 ∙ b.1) in
      let is : a.0 ≡ b.0 = cc same in
      let both : Some d ≡ Some d' = sym a.3 ∙ (ap (λ (z : Happening). slice_get z.moments m) is ∙ (ap (λ k. slice_get b.0.moments k) e.1 ∙ b.3)) in
      let one : d ≡ d' = cc both in
      subst (λ (z : Doing). P z.view) one p

-- what each change keeps of a whole cluster holds at each moment
module _ (scene : Scene) (I : Stage → Type 0)
    (keeps : (s : Stage) (i : ℕ) (v : View) (input : Input) (w : Where) (d e : Doing) → slice_get s.nodes i ≡ Some v → IsSeen s input → I s → Act (at_place scene i) input w d e → I (during s i d) → I (during s i e)) where
  pub at_each_moment : I (stage_of (opening scene)) → (es : List Event) (j m : ℕ) (h : Happening) (n : NodeId) (d : Doing) (t : Took scene es j h n) → slice_get h.moments m ≡ Some d
      → I (during (stage_of (run scene t.from.early)) t.takes.place d)
  at_each_moment opens es j m h n d t q =
      let s : Stage = stage_of (run scene t.from.early) in
      let i = t.takes.place in
      let start : I s = everywhere scene I keeps opens t.from.early in
      at_moments (at_place scene i) t.takes.input (λ e. I (during s i e)) (λ w d e a. keeps s i t.takes.view t.takes.input w d e t.takes.is t.takes.seen start a) t.takes.view
      (subst I (sym (during_start s i t.takes.view t.takes.is)) start) d
      (in_at (moments_of (at_place scene i) t.takes.input t.takes.view) m d (ap (λ xs. slice_get xs m) (sym t.takes.moments) ∙ q))

-- what each change of a step keeps holds at each moment of an event
pub moment_of : (scene : Scene) (es : List Event) (j m : ℕ) (h : Happening) (n : NodeId) (d : Doing) (t : Took scene es j h n) → slice_get h.moments m ≡ Some d → (I : Doing → Type 0)
    → ((w : Where) (a b : Doing) → Act (at_place scene t.takes.place) t.takes.input w a b → I a → I b) → I (starts t.takes.view) → I d
moment_of scene es j m h n d t q I keeps start =
    at_moments (at_place scene t.takes.place) t.takes.input I keeps t.takes.view start d
    (in_at (moments_of (at_place scene t.takes.place) t.takes.input t.takes.view) m d (ap (λ xs. slice_get xs m) (sym t.takes.moments) ∙ q))

-- the first moment is the view before
pub first_of : (scene : Scene) (es : List Event) (j : ℕ) (h : Happening) (n : NodeId) (d : Doing) (t : Took scene es j h n) → slice_get h.moments 0 ≡ Some d → d ≡ starts t.takes.view
first_of scene es j h n d t q = start (at_place scene t.takes.place) t.takes.input t.takes.view (ap (λ xs. slice_get xs 0) (sym t.takes.moments) ∙ q)
  where
    by_rule : (here : Here) (input : Input) (v : View) (o : Option Doing) → slice_get (from_rule here input (starts v) o) 0 ≡ Some d → d ≡ starts v
    by_rule here input v None e = let same : starts v ≡ d = cc e in sym same
    by_rule here input v (Some r) e = let same : starts v ≡ d = cc e in sym same

    start : (here : Here) (input : Input) (v : View) → slice_get (moments_of here input v) 0 ≡ Some d → d ≡ starts v
    start here input v e = by_rule here input v (rule here input (starts v)) (opened here input v ∙ e)

-- an earlier part of a trace
pub trace_prefix : (scene : Scene) (w : World) (xs ys : List Event) (j : ℕ) (h : Happening) → slice_get (trace_from scene w xs) j ≡ Some h → slice_get (trace_from scene w (xs ++ ys)) j ≡ Some h
trace_prefix scene w [] ys j h e = absurd (cc e)
trace_prefix scene w (x ∷ xs) ys zero h e = e
trace_prefix scene w (x ∷ xs) ys (suc j) h e = trace_prefix scene (happens scene w x) xs ys j h e

-- What each change keeps of a whole cluster holds at the end of a run, where it holds at a moment.
use Rattle.std.proofs.Common.{List, Some, [], ap, arith, length, length-append, slice_get, subst, suc, sym, zero, ℕ, ◌+◌, ◌-◌, ◌<◌, ◌∙◌, ◌∷◌, ◌≡◌, ◌≤◌}
use Rattle.std.proofs.lemmas.Option.{slice_get_within}
use Rattle.str_base.specs.declared.names.NodeId.{NodeId}
use Rattle.str_model.proofs.Principle.SingleChanges.{Act, Where, along}
use Rattle.str_model.proofs.Principle.Everywhere.{IsSeen, Stage, at_place, during, ever_after, run-append, stage_of}
use Rattle.str_model.proofs.Principle.LaterMoments.{Took, got_below}
use Rattle.str_model.proofs.Principle.NextMoments.{linked}
use Rattle.str_model.proofs.Principle.MomentPaths.{link_path}
use Rattle.str_model.proofs.Principle.TraceEvents.{ends_slice}
use Rattle.str_model.specs.declared.messages.Input.{Input}
use Rattle.str_model.specs.Moments.{moments_of}
use Rattle.str_model.specs.Runs.{World, happens, opening, run, run_from}
use Rattle.str_model.specs.Traces.{Happening}
use Rattle.str_model.specs.Views.{Doing, View, starts}
use Rattle.str_scene.specs.declared.names.Event.{Event}
use Rattle.str_scene.specs.Scenes.{Here, Scene}

module _ (scene : Scene) (I : Stage → Type 0)
    (keeps : (s : Stage) (i : ℕ) (v : View) (input : Input) (w : Where) (d e : Doing) → slice_get s.nodes i ≡ Some v → IsSeen s input → Act (at_place scene i) input w d e → I (during s i d) → I (during s i e)) where
  -- from one moment of a step to a later one
  within : (s : Stage) (i : ℕ) (input : Input) (v : View) (k m : ℕ) (a b : Doing) → slice_get s.nodes i ≡ Some v → IsSeen s input → slice_get (moments_of (at_place scene i) input v) m ≡ Some a
      → slice_get (moments_of (at_place scene i) input v) (m + k) ≡ Some b → I (during s i a) → I (during s i b)
  within s i input v zero m a b is seen p q h = let same : Some a ≡ Some b = sym p ∙ (ap (λ n. slice_get (moments_of (at_place scene i) input v) n) plus_zero ∙ q) in let one : a ≡ b = cc same in subst (λ (z : Doing). I (during s i z)) one h
    where
      plus_zero : m ≡ m + zero
      plus_zero = omega arith
  within s i input v (suc k) m a b is seen p q h =
      let here : Here = at_place scene i in
      let next : slice_get (moments_of here input v) (suc (m + k)) ≡ Some b = ap (λ n. slice_get (moments_of here input v) n) plus_suc ∙ q in
      let c = got_below (moments_of here input v) (m + k) b next in
      let l = link_path here input (starts v) c.0 b (linked here input v (m + k) c.0 b c.1 next) in
      along here input l.0 (λ d. I (during s i d)) (λ d e t. keeps s i v input l.0 d e is seen t) c.0 b l.1 (within s i input v k m a c.0 is seen p c.1 h)
    where
      plus_suc : suc (m + k) ≡ m + suc k
      plus_suc = omega arith

  -- from a moment to the end of the run
  pub onward : (es : List Event) (j m : ℕ) (h : Happening) (n : NodeId) (d : Doing) (t : Took scene es j h n) → slice_get h.moments m ≡ Some d → I (during (stage_of (run scene t.from.early)) t.takes.place d)
      → I (stage_of (run scene es))
  onward es j m h n d t q p = subst (λ (w : World). I (stage_of w)) (sym run_is) (ever_after scene I (λ s i v input w d e is seen hs a k. keeps s i v input w d e is seen a k) w1 t.from.late at_end)
    where
      w1 : World
      w1 = happens scene (run scene t.from.early) t.from.event

      sum : (a b : ℕ) → a ≤ b → a + (b - a) ≡ b
      sum a b l = omega (arith, l)

      below : m < length h.moments → m ≤ length t.takes.ends.0
      below lt = omega (arith, lt, ap length t.takes.ends.1, length-append t.takes.ends.0 (t.takes.last ∷ []))

      to_last : I (during (stage_of (run scene t.from.early)) t.takes.place t.takes.last)
      to_last =
          let ms : List Doing = moments_of (at_place scene t.takes.place) t.takes.input t.takes.view in
          let at : slice_get ms m ≡ Some d = ap (λ xs. slice_get xs m) (sym t.takes.moments) ∙ q in
          let end : slice_get ms (length t.takes.ends.0) ≡ Some t.takes.last = ap (λ xs. slice_get xs (length t.takes.ends.0)) (sym t.takes.moments) ∙ ends_slice h.moments t.takes.last t.takes.ends in
          within (stage_of (run scene t.from.early)) t.takes.place t.takes.input t.takes.view (length t.takes.ends.0 - m) m d t.takes.last t.takes.is t.takes.seen at
          (ap (λ k. slice_get ms k) (sum m (length t.takes.ends.0) (below (slice_get_within h.moments m d q))) ∙ end) p

      after : during (stage_of (run scene t.from.early)) t.takes.place t.takes.last ≡ stage_of (happens scene (run scene t.from.early) t.from.event)
      after = λ k. record { nodes = sym t.takes.after k; sent = sym t.takes.sent k; answers = sym t.takes.answers k }

      at_end : I (stage_of (happens scene (run scene t.from.early) t.from.event))
      at_end = subst I after to_last

      run_is : run scene es ≡ run_from scene (happens scene (run scene t.from.early) t.from.event) t.from.late
      run_is = ap (λ xs. run scene xs) t.from.all ∙ run-append scene (opening scene) t.from.early (t.from.event ∷ t.from.late)

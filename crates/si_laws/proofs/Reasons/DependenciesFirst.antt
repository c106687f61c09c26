-- The gate law's clauses on dependencies and on cascades, over every run.
use Rattle.std.proofs.Common.{List, Some, [], add-sub_cancel, ap, arith, inl, inr, length, length-append, refl, slice_get, subst, sym, ℕ, ◌++◌, ◌+◌, ◌-◌, ◌<◌, ◌∙◌, ◌∷◌, ◌≡◌, ◌⊎◌}
use Rattle.std.proofs.lemmas.Option.{slice_get_within}
use Rattle.str_base.specs.declared.names.NodeId.{NodeId}
use Rattle.str_scene.specs.declared.names.Event.{Event}
use Rattle.str_scene.specs.SceneLimits.{IsScene}
use Rattle.str_scene.specs.Scenes.{Scene}
use Rattle.str_model.specs.Owned.{IsView, Owns}
use Rattle.str_model.specs.Runs.{opening, run}
use Rattle.str_model.specs.Traces.{Earlier, Happening, MomentAt, trace}
use Rattle.str_model.specs.Turns.{CommittedAt, own_fate}
use Rattle.str_model.specs.Turns
use Rattle.str_model.specs.Views.{Doing, Own}
use Rattle.str_model.proofs.Principle.Everywhere.{at_place, run-append}
use Rattle.str_model.proofs.Changes.SnapshotsGain.{Names}
use Rattle.str_model.proofs.Principle.LaterMoments.{Took, later, took}
use Rattle.str_model.proofs.Principle.TraceEvents.{ends_slice}
use Rattle.si_laws.proofs.Dependencies.LocalsApart.{StandAfter, stand_after}
use Rattle.si_laws.proofs.Dependencies.DependencyFates.{Fate, fate-act, gone_at, listed, settled_at}
use Rattle.si_laws.proofs.Reasons.CommitsAfter.{listed_committed, place_nth, stand_moment, still_open, strict}
use Rattle.si_laws.specs.GateLaw.{CascadesInOneEvent, CommittedBefore, DependenciesFirst, StandsAt}
use Rattle.si_laws.specs.Standing.{IsAborted}
use Rattle.str_base.proofs.Lists.{get_set}
use Rattle.str_base.proofs.Members.{in_at}
use Rattle.si_laws.proofs.Stages.ParticipantSeats.{of_nth}

module _ (scene : Scene) (ok : IsScene scene) (es : List Event) where
  -- each that was in the dependency set at some moment committed first
  pub dependencies_first : DependenciesFirst (trace scene es)
  dependencies_first j m j' m' t u x z sx cx sz dz = by_place (of_nth sx.0.view.own t.seq x sx.2) (of_nth sz.0.view.own t.seq z sz.2)
    where
      names : Names u.seq z.snap.deps
      names = (dz.1.1, in_at z.snap.deps dz.1.0 dz.1.1 dz.1.2, dz.1.3)

      by_place : (i : ℕ) × (t.seq ≡ i + 1) × Owns sx.0.view i x → (k : ℕ) × (t.seq ≡ k + 1) × Owns sz.0.view k z → CommittedBefore (trace scene es) j m u x.snap.rs
      by_place p q =
          let i = p.0 in
          let oz : Owns sz.0.view i z = subst (λ n. Owns sz.0.view n z) (omega (arith, p.1, q.1)) q.2 in
          let op = still_open scene ok es j m j' m' t.node sx.0 sz.0 i u.seq x z sx.1 sz.1 oz names p.2 cx in
          let w = (stand_moment scene ok es j' m' t.node sz.0 sz.1).base.deps i z names.0 oz op names.1 in
          let seq : u.seq ≡ w.place + 1 = sym names.2 ∙ w.seq in
          strict scene ok es t.node i w.place u dz.0 seq (λ e. absurd (omega (arith, e, w.before)))
          (λ g n d y a own c.
          let r = listed_committed scene ok es g n j' m' t.node d sz.0 i u.seq y z a sz.1 oz names own c in
          (r.0, ap (λ b. own_fate (slice_get d.view.own b)) (sym (ap (λ b. b - 1) seq ∙ add-sub_cancel w.place 1)) ∙ r.1, r.2)) j m sx.0 x sx.1 p.2 cx

  -- the last moment of an event is the view after it
  last_stands : (j l : ℕ) (n : NodeId) (e : Doing) (a : MomentAt (trace scene es) j l n e) → length a.0.moments ≡ l + 1 → StandAfter (at_place scene (took scene es j a.0 n a.1 a.2).takes.place) e.view
  last_stands j l n e a len =
      let t : Took scene es j a.0 n = took scene es j a.0 n a.1 a.2 in
      let at : length t.takes.ends.0 ≡ l = omega (arith, len, ap length t.takes.ends.1, length-append t.takes.ends.0 (t.takes.last ∷ [])) in
      let same : Some t.takes.last ≡ Some e = sym (ends_slice a.0.moments t.takes.last t.takes.ends) ∙ (ap (λ k. slice_get a.0.moments k) at ∙ a.3) in
      let is : t.takes.last ≡ e = cc same in
      let view : IsView scene (t.from.early ++ t.from.event ∷ []) t.takes.place t.takes.last.view =
      ap (λ w. slice_get w.nodes t.takes.place) (run-append scene (opening scene) t.from.early (t.from.event ∷ []))
      ∙ (ap (λ ns. slice_get ns t.takes.place) t.takes.after ∙ get_set (run scene t.from.early).nodes t.takes.place t.takes.view t.takes.last.view t.takes.is) in
      subst (λ (z : Doing). StandAfter (at_place scene t.takes.place) z.view) is (stand_after scene ok (t.from.early ++ t.from.event ∷ []) t.takes.place t.takes.last.view view)

  -- in the event in which a transaction aborts, all that depend on it abort
  pub cascades : CascadesInOneEvent (trace scene es)
  cascades j m l t u x z sx op dx last sz ab = by_place (of_nth sx.0.view.own t.seq x sx.2) (of_nth sz.0.view.own u.seq z sz.2)
    where
      at_end : MomentAt (trace scene es) j l t.node sz.0
      at_end = (sz.1.0, sz.1.1, sz.1.2 ∙ ap Some dx.0, sz.1.3)

      entry : sz.1.0 ≡ last.0
      entry = let same : Some sz.1.0 ≡ Some last.0 = sym sz.1.1 ∙ last.1 in cc same

      start : sx.1.0 ≡ last.0
      start = let same : Some sx.1.0 ≡ Some last.0 = sym sx.1.1 ∙ last.1 in cc same

      len : length sz.1.0.moments ≡ l + 1
      len = ap (λ (h : Happening). length h.moments) entry ∙ last.2

      names : Names u.seq x.snap.deps
      names = (dx.1.1, in_at x.snap.deps dx.1.0 dx.1.1 dx.1.2, dx.1.3)

      before : (Earlier j m j l) ⊎ ((j ≡ j) × (m ≡ l))
      before = by_order (three m l) (slice_get_within sx.1.0.moments m sx.0 sx.1.3)
        where
          three : (a b : ℕ) → (a < b) ⊎ ((a ≡ b) ⊎ (b < a))
          three a b = grind arith

          by_order : (m < l) ⊎ ((m ≡ l) ⊎ (l < m)) → m < length sx.1.0.moments → (Earlier j m j l) ⊎ ((j ≡ j) × (m ≡ l))
          by_order (inl lt) w = inl (inr (refl, lt))
          by_order (inr (inl e)) w = inr (refl, e)
          by_order (inr (inr gt)) w = absurd (omega (arith, gt, w, ap (λ (h : Happening). length h.moments) start, last.2))

      gone : (k : ℕ) → u.seq ≡ k + 1 → Owns sz.0.view k z → own_fate (slice_get sz.0.view.own (u.seq - 1)) ≡ Turns.Gone
      gone k s o =
          ap (λ b. own_fate (slice_get sz.0.view.own (b - 1))) s ∙ (ap (λ b. own_fate (slice_get sz.0.view.own b)) (add-sub_cancel k 1) ∙ (ap own_fate o ∙ ap Turns.phase_fate ab.2))

      by_fate : (i k : ℕ) → t.seq ≡ i + 1 → u.seq ≡ k + 1 → Owns sz.0.view k z → Fate i u.seq sz.0.view → (y : Own) × StandsAt (trace scene es) j l t y × IsAborted y
      by_fate i k s q o (listed y oy open_ n) =
          let after = last_stands j l t.node sz.0 at_end len in
          let f = after.deps_open.below i y n.0 (slice_get_within sz.0.view.own i y oy) oy open_ n.1 in
          absurd (cc (sym (gone k q o) ∙ (ap (λ b. own_fate (slice_get sz.0.view.own (b - 1))) (sym n.2) ∙ f)))
      by_fate i k s q o (settled_at y fc oy f le) = absurd (cc (sym (gone k q o) ∙ f))
      by_fate i k s q o (gone_at y oy g) = (y, (sz.0, at_end, place_nth sz.0.view.own t.seq i y s oy), g)

      by_place : (i : ℕ) × (t.seq ≡ i + 1) × Owns sx.0.view i x → (k : ℕ) × (u.seq ≡ k + 1) × Owns sz.0.view k z → (y : Own) × StandsAt (trace scene es) j l t y × IsAborted y
      by_place p q =
          by_fate p.0 q.0 p.1 q.1 q.2
          (later scene ok (Fate p.0 u.seq) (λ here good input w d e act h. fate-act here input w p.0 u.seq d e act h) es j m j l t.node sx.0 sz.0 sx.1 at_end before (listed x p.2 op names))

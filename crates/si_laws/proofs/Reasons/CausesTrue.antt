-- Each abort has a true cause: a dependency that was lost or came too late, a wish, a conflict found at home or by a Replicate.
use Rattle.std.proofs.Common.{Bool, List, None, Option, Some, [], add-sub_cancel, ap, arith, false, find, if◌then◌else◌, inl, inr, max, nat_lt, refl, slice_get, subst, suc, sym, true, ltb-true, ℕ, ◌+◌, ◌-◌, ◌<◌, ◌∙◌, ◌∷◌, ◌≡◌, ◌⊎◌}
use Rattle.dependency_set.specs.Snapshots.{Snap}
use Rattle.dependency_set.specs.declared.names.Dep.{Dep}
use Rattle.str_base.specs.declared.names.Cause.{Cause}
use Rattle.str_base.specs.declared.names.Cause.TheVariants.{Late as IsLate, Lost as IsLost, Wish}
use Rattle.str_base.specs.declared.names.KeyId.{KeyId}
use Rattle.str_base.specs.declared.names.Kind.TheVariants.{Pre}
use Rattle.str_base.specs.declared.names.Ts.{Ts}
use Rattle.str_base.specs.declared.names.TxId.{TxId}
use Rattle.str_base.specs.declared.names.Version.{Version}
use Rattle.str_base.specs.declared.names.Write.{Write}
use Rattle.str_base.specs.Versions.{chain, is_pre, same_key, stamp}
use Rattle.str_scene.specs.declared.names.Event.{Event}
use Rattle.str_scene.specs.SceneLimits.{IsScene}
use Rattle.str_scene.specs.Scenes.{Here, Scene}
use Rattle.str_model.specs.Owned.{Owns}
use Rattle.str_model.specs.Runs.{run}
use Rattle.str_model.specs.Traces.{trace}
use Rattle.str_model.specs.Turns.{CertTurn, Certified, Conflict, DepTurn, Keep, Late, Lost, WaitGate, cert_turn, conflicts, dep_turn, met, own_fate}
use Rattle.str_model.specs.Turns
use Rattle.str_model.specs.Views.{Aborted, Committed, Doing, Own, Phase, View, starts}
use Rattle.str_model.proofs.Principle.Everywhere.{at_each_event, at_place}
use Rattle.str_model.proofs.Principle.StepPaths.{step-keeps}
use Rattle.str_model.proofs.Principle.LaterMoments.{Took, moment_of, took}
use Rattle.str_model.proofs.Principle.NextMoments.{linked}
use Rattle.si_laws.proofs.Reasons.AbortsAll.{link_by}
use Rattle.si_laws.proofs.Reasons.AbortChanges.{AbortedBy, AsksNow, IsStep, ab_evicted, ab_late, ab_lost, ab_met, ab_refused, ab_stop, ab_wish, now_at_end, now_waiting}
use Rattle.si_laws.proofs.Reasons.CommitsAfter.{committed_is, place_nth, stand_moment}
use Rattle.str_model.proofs.OwnFacts.UnmetNeeds.{AllNeedy, needy-act}
use Rattle.si_laws.proofs.Scripts.ReadsEvaluate.{find_is}
use Rattle.si_laws.specs.Standing.{IsAborted, IsCommitted}
use Rattle.si_laws.specs.TrueCause.{AbortsAt, AsksToCommit, DependedOn, IsStepOf, TrueWish, at_end, waiting}
use Rattle.str_base.proofs.Members.{at_in, in_filter, in_flat_map}
use Rattle.str_base.proofs.SameNames.{same_key-is}
use Rattle.si_laws.proofs.Stages.ParticipantSeats.{of_nth}
use Rattle.str_base.specs.Members.{In}
use Rattle.std.proofs.lemmas.Bool.{or_cases}
use Rattle.str_model.proofs.KindTests.{pre_kind}

-- ---- the look at the dependencies

-- a dependency with this fate
abbrev pub DepOf : List Own → List Dep → ℕ → Turns.Fate → Type 0
DepOf own ds q f = (dep : Dep) × (In dep ds) × (dep.seq ≡ q) × (own_fate (slice_get own (dep.seq - 1)) ≡ f)

-- what a look at dependencies that fails has found
abbrev Found : List Own → ℕ → List Dep → DepTurn → Type 0
Found own rs ds (Lost q g es) = DepOf own ds q Turns.Gone
Found own rs ds (Late q fc g es) = DepOf own ds q (Turns.CommittedAt fc) × (rs < fc)
Found own rs ds (Keep ffc es) = Unit {0}

found_more : (own : List Own) (rs : ℕ) (d : Dep) (ds : List Dep) (t : DepTurn) → Found own rs ds t → Found own rs (d ∷ ds) t
found_more own rs d ds (Lost q g es) f = (f.0, inr f.1, f.2, f.3)
found_more own rs d ds (Late q fc g es) f = ((f.0.0, inr f.0.1, f.0.2, f.0.3), f.1)
found_more own rs d ds (Keep ffc es) f = tt

found_also : (own : List Own) (rs : ℕ) (d : Dep) (ds : List Dep) (t : DepTurn) → Found own rs ds t → Found own rs (d ∷ ds) (Turns.keep_also d t)
found_also own rs d ds (Lost q g es) f = (f.0, inr f.1, f.2, f.3)
found_also own rs d ds (Late q fc g es) f = ((f.0.0, inr f.0.1, f.0.2, f.0.3), f.1)
found_also own rs d ds (Keep ffc es) f = tt

found : (own : List Own) (rs : ℕ) (ds : List Dep) (ffc : ℕ) → Found own rs ds (Turns.resolve_all own rs ds ffc)
found own rs [] ffc = tt
found own rs (d ∷ ds) ffc = by_fate (own_fate (slice_get own (d.seq - 1))) refl (λ g. found own rs ds g)
  where
    by_fate : (t : Turns.Fate) → own_fate (slice_get own (d.seq - 1)) ≡ t → ((g : ℕ) → Found own rs ds (Turns.resolve_all own rs ds g))
        → Found own rs (d ∷ ds) (Turns.by_fate rs d ds ffc (λ g. Turns.resolve_all own rs ds g) t)
    by_fate Turns.Open e f = found_also own rs d ds (Turns.resolve_all own rs ds ffc) (f ffc)
    by_fate Turns.Gone e f = (d, inl refl, refl, e)
    by_fate (Turns.CommittedAt fc) e f = by_test (nat_lt rs fc) refl
      where
        by_test : (b : Bool) → nat_lt rs fc ≡ b → Found own rs (d ∷ ds) (if b then Late d.seq fc ffc (d ∷ ds) else Turns.resolve_all own rs ds (max ffc fc))
        by_test true t = ((d, inl refl, refl, e), ltb-true rs fc t)
        by_test false t = found_more own rs d ds (Turns.resolve_all own rs ds (max ffc fc)) (f (max ffc fc))

turn_found : (own : List Own) (snap : Snap) (t : DepTurn) → dep_turn own snap ≡ t → Found own snap.rs snap.deps t
unfolding dep_turn
turn_found own snap t e = subst (Found own snap.rs snap.deps) e (found own snap.rs snap.deps snap.ffc)

gone_is : (y : Own) → Turns.phase_fate y.phase ≡ Turns.Gone → IsAborted y
gone_is y e = by_phase y.phase e
  where
    by_phase : (p : Phase) → Turns.phase_fate p ≡ Turns.Gone → (lc : Option ℕ) × (c : Cause) × (p ≡ Aborted lc c)
    by_phase (Aborted lc c) q = (lc, c, refl)
    by_phase (Committed lc None) q = absurd (cc q)
    by_phase (Committed lc (Some fc)) q = absurd (cc q)
    by_phase _ q = absurd (cc q)

-- ---- the certification

-- what it conflicts with stands here, and is of a key that is written
pub conflict_is : (here : Here) (v : View) (snap : Snap) (ws : List Write) (u : TxId) (k : KeyId) → cert_turn here v snap ws ≡ Conflict u k
    → (q : Version) × (In q v.versions) × (q.tx ≡ u) × (q.key ≡ k) × ((q.kind ≡ Pre) ⊎ (snap.rs < q.ts.0)) × ((w : Write) × (In w ws) × (w.key ≡ k))
unfolding cert_turn
conflict_is here v snap ws u k e = by_found (find (conflicts snap.rs) (met ws v.versions)) refl e
  where
    by_gate : (b : Bool) (n : ℕ) (s : Snap) (t : TxId) → (if b then Certified n s else WaitGate t) ≡ Conflict u k → ⊥
    by_gate true n s t q = cc q
    by_gate false n s t q = cc q

    by_found : (o : Option Version) → find (conflicts snap.rs) (met ws v.versions) ≡ o → Turns.cert_after here v snap ws o ≡ Conflict u k
        → (q : Version) × (In q v.versions) × (q.tx ≡ u) × (q.key ≡ k) × ((q.kind ≡ Pre) ⊎ (snap.rs < q.ts.0)) × ((w : Write) × (In w ws) × (w.key ≡ k))
    by_found None f q = absurd (by_gate _ _ _ _ q)
    by_found (Some x) f q =
        let tx : x.tx ≡ u = cc q in
        let key : x.key ≡ k = cc q in
        let g = find_is (conflicts snap.rs) (met ws v.versions) x f in
        let r = in_flat_map (λ (w : Write). chain w.key v.versions) ws x g.0 in
        let c = in_filter (λ (y : Version). same_key y.key r.0.key) v.versions x r.2 in (
          x,
          c.0,
          tx,
          key,
          elim (or_cases (is_pre x.kind) (nat_lt snap.rs x.ts.0) g.1) [ inl z ↦ inl (pre_kind x.kind z) | inr z ↦ inr (ltb-true snap.rs x.ts.0 z) ],
          (r.0, r.1, sym (same_key-is x.key r.0.key c.1) ∙ key),
        )

module _ (scene : Scene) (ok : IsScene scene) (es : List Event) where
  -- a transaction that aborts, at its place
  pub record Aborts (j : ℕ) (t : TxId) (d : Doing) (x : Own) (cause : Cause) (a : AbortsAt (trace scene es) j t d x cause) : Type 0 where
    pub took_ : Took scene es j a.before.0 t.node
    pub place : ℕ
    pub seq : t.seq ≡ place + 1
    pub owns : Owns d.view place x
    pub by : AbortedBy (at_place scene took_.takes.place) took_.takes.input d place x cause

  pub aborts_by : (j : ℕ) (t : TxId) (d : Doing) (x : Own) (cause : Cause) (a : AbortsAt (trace scene es) j t d x cause) → Aborts j t d x cause a
  aborts_by j t d x cause a =
      let k = took scene es j a.before.0 t.node a.before.1 a.before.2 in
      let here = at_place scene k.takes.place in
      let p = of_nth d.view.own t.seq x a.stood in
      let g = of_nth a.next.view.own t.seq a.gone a.stands in
      let same : Some a.after.0 ≡ Some a.before.0 = sym a.after.1 ∙ a.before.1 in
      let is : a.after.0 ≡ a.before.0 = cc same in
      let first = ap (λ ms. slice_get ms a.moment) (sym k.takes.moments) ∙ a.before.3 in
      let second = ap (λ ms. slice_get ms (suc a.moment)) (sym k.takes.moments) ∙ (ap (λ h. slice_get h.moments (suc a.moment)) (sym is) ∙ (ap (λ n. slice_get a.after.0.moments n) one ∙ a.after.3)) in
      record {
        took_ = k;
        place = p.0;
        seq = p.1;
        owns = p.2;
        by = link_by here k.takes.input p.0 (starts k.takes.view) d a.next x a.lc cause a.gone (linked here k.takes.input k.takes.view a.moment d a.next first second) p.2 a.was_open
            (subst (λ n. Owns a.next.view n a.gone) (omega (arith, p.1, g.1)) g.2) a.aborted;
      }
    where
      one : suc a.moment ≡ a.moment + 1
      one = omega arith

  -- the event is a client step of its session
  step_is : (j : ℕ) (t : TxId) (d : Doing) (x : Own) (cause : Cause) (a : AbortsAt (trace scene es) j t d x cause) (b : Aborts j t d x cause a) → IsStep b.took_.takes.input x → IsStepOf (trace scene es) j x
  step_is j t d x cause a b st = (a.before.0, st.0, a.before.1, b.took_.takes.given ∙ ap Some st.1)

  -- it was to be certified
  pub asks_is : (j : ℕ) (t : TxId) (d : Doing) (x : Own) (cause : Cause) (a : AbortsAt (trace scene es) j t d x cause) (b : Aborts j t d x cause a)
      → AsksNow (at_place scene b.took_.takes.place) b.took_.takes.input x → AsksToCommit scene (trace scene es) j t x
  asks_is j t d x cause a b (now_at_end st ph e n) = at_end (step_is j t d x cause a b st) ph e n
  asks_is j t d x cause a b (now_waiting ph) = waiting ph

  -- the dependency with this fate, as it stands
  dep_stands : (j : ℕ) (t : TxId) (d : Doing) (x : Own) (cause : Cause) (a : AbortsAt (trace scene es) j t d x cause) (b : Aborts j t d x cause a) (q : ℕ) (f : Turns.Fate) → DepOf d.view.own x.snap.deps q f
      → (u : TxId) → u ≡ record { node = record { 0 = b.took_.takes.place + 1 }; seq = q } → (y : Own) × DependedOn d t x u y × (Turns.phase_fate y.phase ≡ f)
  dep_stands j t d x cause a b q f dep u name =
      let w = (stand_moment scene ok es j a.moment t.node d a.before).base.deps b.place x dep.0 b.owns a.was_open dep.1 in
      let i = at_in x.snap.deps dep.0 dep.1 in
      let seq : u.seq ≡ w.place + 1 = ap (λ (z : TxId). z.seq) name ∙ (sym dep.2 ∙ w.seq) in (
        w.owner,
        ((ap (λ (z : TxId). z.node) name ∙ sym b.took_.node, (i.0, dep.0, i.1, dep.2 ∙ ap (λ (z : TxId). z.seq) (sym name))), place_nth d.view.own u.seq w.place w.owner seq w.owns),
        sym (ap own_fate (ap (λ m. slice_get d.view.own (m - 1)) w.seq ∙ (ap (λ m. slice_get d.view.own m) (add-sub_cancel w.place 1) ∙ w.owns))) ∙ dep.3,
      )

  -- a lost one depended on one that had aborted
  pub lost_true : (j : ℕ) (t : TxId) (d : Doing) (x : Own) (u : TxId) → AbortsAt (trace scene es) j t d x (IsLost u) → (y : Own) × DependedOn d t x u y × IsAborted y
  lost_true j t d x u a = by_kind (aborts_by j t d x (IsLost u) a) (aborts_by j t d x (IsLost u) a).by
    where
      by_kind : (b : Aborts j t d x (IsLost u) a) → AbortedBy (at_place scene b.took_.takes.place) b.took_.takes.input d b.place x (IsLost u) → (y : Own) × DependedOn d t x u y × IsAborted y
      by_kind b (ab_lost q g es e c) =
          let name : record { node = record { 0 = b.took_.takes.place + 1 }; seq = q } ≡ u = cc c in
          let r = dep_stands j t d x (IsLost u) a b q Turns.Gone (turn_found d.view.own x.snap (Lost q g es) e) u (sym name) in (r.0, r.1, gone_is r.0 r.2)
      by_kind b (ab_late q fc g es e c) = absurd (cc c)
      by_kind b (ab_met snap v k asks rs w vs e c) = absurd (cc c)
      by_kind b (ab_evicted from v w m e c) = absurd (cc c)
      by_kind b (ab_stop st ph e c) = absurd (cc c)
      by_kind b (ab_refused from v q w k m n e f g c) = absurd (cc c)
      by_kind b (ab_wish e f c) = absurd (cc c)

  -- a late one depended on one that had committed above its snapshot
  pub late_true : (j : ℕ) (t : TxId) (d : Doing) (x : Own) (u : TxId) (ts : Ts) → AbortsAt (trace scene es) j t d x (IsLate u ts) → (y : Own) × DependedOn d t x u y × IsCommitted y ts.0 × (x.snap.rs < ts.0)
  late_true j t d x u ts a = by_kind (aborts_by j t d x (IsLate u ts) a) (aborts_by j t d x (IsLate u ts) a).by
    where
      by_kind : (b : Aborts j t d x (IsLate u ts) a) → AbortedBy (at_place scene b.took_.takes.place) b.took_.takes.input d b.place x (IsLate u ts) → (y : Own) × DependedOn d t x u y × IsCommitted y ts.0 × (x.snap.rs < ts.0)
      by_kind b (ab_late q fc g es e c) =
          let name : record { node = record { 0 = b.took_.takes.place + 1 }; seq = q } ≡ u = cc c in
          let time : stamp fc ≡ ts = cc c in
          let at : fc ≡ ts.0 = ap (λ (z : Ts). z.0) time in
          let f = turn_found d.view.own x.snap (Late q fc g es) e in
          let r = dep_stands j t d x (IsLate u ts) a b q (Turns.CommittedAt fc) f.0 u (sym name) in
          (r.0, r.1, committed_is r.0 ts.0 (r.2 ∙ ap Turns.CommittedAt at), omega (arith, f.1, at))
      by_kind b (ab_lost q g es e c) = absurd (cc c)
      by_kind b (ab_met snap v k asks rs w vs e c) = absurd (cc c)
      by_kind b (ab_evicted from v w m e c) = absurd (cc c)
      by_kind b (ab_stop st ph e c) = absurd (cc c)
      by_kind b (ab_refused from v q w k m n e f g c) = absurd (cc c)
      by_kind b (ab_wish e f c) = absurd (cc c)

  -- where an own transaction waits, or is to abort by a need
  needy_view : (events : List Event) (n : ℕ) (v : View) → slice_get (run scene events).nodes n ≡ Some v → AllNeedy (at_place scene n) v
  needy_view events n v is =
      at_each_event scene ok AllNeedy (λ here i x own. absurd (cc own)) (λ here good input u e p h. step-keeps here input (λ d. AllNeedy here d.view) (λ w d f a s. needy-act here input w d f a s) (starts u) e p h) events n v is

  -- a wish stands at an abort, or at a need that is not met, and no dependency is left
  pub wish_true : (j : ℕ) (t : TxId) (d : Doing) (x : Own) → AbortsAt (trace scene es) j t d x Wish → TrueWish scene (trace scene es) j t x
  wish_true j t d x a = by_kind (aborts_by j t d x Wish a) (aborts_by j t d x Wish a).by
    where
      by_kind : (b : Aborts j t d x Wish a) → AbortedBy (at_place scene b.took_.takes.place) b.took_.takes.input d b.place x Wish → TrueWish scene (trace scene es) j t x
      by_kind b (ab_stop st ph e c) = inl (step_is j t d x Wish a b st, ph, e)
      by_kind b (ab_wish e f c) =
          let k = b.took_ in
          let here = at_place scene k.takes.place in
          let all = moment_of scene es j a.moment a.before.0 t.node d k a.before.3 (λ z. AllNeedy here z.view) (λ w y z act. needy-act here k.takes.input w y z act) (needy_view k.from.early k.takes.place k.takes.view k.takes.is) in
          inr (e, f, (all b.place x b.owns).unmet e)
      by_kind b (ab_lost q g es e c) = absurd (cc c)
      by_kind b (ab_late q fc g es e c) = absurd (cc c)
      by_kind b (ab_met snap v k asks rs w vs e c) = absurd (cc c)
      by_kind b (ab_evicted from v w m e c) = absurd (cc c)
      by_kind b (ab_refused from v q w k m n e f g c) = absurd (cc c)

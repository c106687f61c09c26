-- The gate law's clause on writers that were read from, and the gate law of every run.
use Rattle.std.proofs.Common.{List, Some, ap, arith, inl, inr, refl, slice_get, subst, sym, ℕ, ◌+◌, ◌∙◌, ◌≡◌, ◌≢◌, ◌≤◌, ◌⊎◌}
use Rattle.str_base.specs.declared.names.NodeId.{NodeId}
use Rattle.str_base.specs.declared.names.TxId.{TxId}
use Rattle.str_scene.specs.declared.names.Event.{Event}
use Rattle.str_scene.specs.SceneLimits.{IsScene}
use Rattle.str_scene.specs.Scenes.{Scene}
use Rattle.str_model.specs.declared.names.ReadDone.{ReadDone}
use Rattle.str_model.specs.Owned.{Owns}
use Rattle.str_model.specs.Runs.{run}
use Rattle.str_model.specs.Traces.{Earlier, MomentAt, trace}
use Rattle.str_model.specs.Turns.{CommittedAt, own_fate}
use Rattle.str_model.specs.Views.{Doing, Own, View, is_decided, lc_of}
use Rattle.str_model.proofs.Principle.Everywhere.{during, stage_of}
use Rattle.str_model.proofs.Principle.LaterMoments.{Took, at_each_moment, later, took}
use Rattle.si_laws.proofs.Reasons.DependenciesFirst.{cascades, dependencies_first}
use Rattle.si_laws.proofs.Reasons.CommitsAfter.{committed_is, decided_later, fate_own, order, stand_moment, stood_before, strict}
use Rattle.str_model.proofs.OwnFacts.LocalOwners.{same_own}
use Rattle.si_laws.proofs.Sources.FinalsReported.{CommittedIn, ReadOk, Reported, reported-act, reported_opening, ro_committed, ro_gone, ro_listed}
use Rattle.si_laws.proofs.Reasons.ReadsKept.{ReadAt, reads_kept}
use Rattle.si_laws.specs.GateLaw.{CommittedBefore, GateLaw, HasCommitted, StandsAt, WritersFirst}
use Rattle.si_laws.specs.Standing.{ReadFrom}
use Rattle.str_base.proofs.Lists.{get_set, got_set}
use Rattle.str_base.proofs.Members.{at_in, in_at}
use Rattle.str_base.specs.Members.{In}
use Rattle.si_laws.proofs.Stages.ParticipantSeats.{of_nth}

module _ (scene : Scene) (ok : IsScene scene) (es : List Event) where
  pub reported_moment : (j m : ℕ) (n : NodeId) (d : Doing) (a : MomentAt (trace scene es) j m n d) (t : Took scene es j a.0 n) → Reported scene (during (stage_of (run scene t.from.early)) t.takes.place d)
  reported_moment j m n d a t =
      at_each_moment scene (Reported scene) (λ s i v input w d e is seen hs act h. reported-act scene s i v input is seen d e w act h) (reported_opening scene) es j m a.0 n d t a.3

  -- one that has committed has read from u: u has committed at or below its snapshot
  committed_in : (j m : ℕ) (n : NodeId) (d : Doing) (i : ℕ) (x : Own) (u : TxId) (a : MomentAt (trace scene es) j m n d) (t : Took scene es j a.0 n) → Owns d.view i x → HasCommitted x → ReadFrom x u
      → (fc : ℕ) × CommittedIn (during (stage_of (run scene t.from.early)) t.takes.place d) u fc × (fc ≤ x.snap.rs)
  committed_in j m n d i x u a t own c r =
      by_read ((reported_moment j m n d a t).reads t.takes.place d.view i x r.0 u (get_set (run scene t.from.early).nodes t.takes.place t.takes.view d.view t.takes.is) own (in_at x.reads r.1.0 r.0 r.1.1) r.2)
    where
      by_read : ReadOk (during (stage_of (run scene t.from.early)) t.takes.place d) t.takes.place x u → (fc : ℕ) × CommittedIn (during (stage_of (run scene t.from.early)) t.takes.place d) u fc × (fc ≤ x.snap.rs)
      by_read (ro_committed fc k le) = (fc, k, le)
      by_read (ro_listed k node seq op names) = absurd (cc (ap is_decided c.2, op))
      by_read (ro_gone g) = absurd (cc (sym c.2 ∙ g.2))

  -- u is of the node itself
  at_home : (j m : ℕ) (n : NodeId) (d : Doing) (i k : ℕ) (x : Own) (u : TxId) → MomentAt (trace scene es) j m n d → Owns d.view i x → HasCommitted x → ReadFrom x u → u.node ≡ n → u.seq ≡ k + 1
      → (fc : ℕ) × (own_fate (slice_get d.view.own k) ≡ CommittedAt fc) × (fc ≤ x.snap.rs)
  at_home j m n d i k x u a own c r node seq =
      let t = took scene es j a.0 n a.1 a.2 in
      let h = committed_in j m n d i x u a t own c r in
      let place : h.1.node ≡ t.takes.place = omega (arith, h.1.at_node, ap (λ (z : NodeId). z.0) (node ∙ t.node)) in
      let view : Some h.1.view ≡ Some d.view =
      sym h.1.there ∙ (ap (λ b. slice_get (during (stage_of (run scene t.from.early)) t.takes.place d).nodes b) place ∙ get_set (run scene t.from.early).nodes t.takes.place t.takes.view d.view t.takes.is) in
      let is : h.1.view ≡ d.view = cc view in
      let at : h.1.place ≡ k = omega (arith, h.1.at_place_, seq) in
      (h.0, ap (λ b. own_fate (slice_get d.view.own b)) (sym at) ∙ (ap (λ (z : View). own_fate (slice_get z.own h.1.place)) (sym is) ∙ h.1.fate), h.2)

  -- each writer that it has read from at the moment committed first
  read_first : (j m : ℕ) (t u : TxId) (x : Own) → StandsAt (trace scene es) j m t x → HasCommitted x → ReadFrom x u → CommittedBefore (trace scene es) j m u x.snap.rs
  read_first j m t u x sx cx rx = by_place (of_nth sx.0.view.own t.seq x sx.2)
    where
      n : NodeId
      n = t.node

      by_place : (i : ℕ) × (t.seq ≡ i + 1) × Owns sx.0.view i x → CommittedBefore (trace scene es) j m u x.snap.rs
      by_place p = by_node (committed_in j m t.node sx.0 i x u sx.1 k p.2 cx rx)
        where
          i : ℕ
          i = p.0

          k : Took scene es j sx.1.0 t.node
          k = took scene es j sx.1.0 t.node sx.1.1 sx.1.2

          -- the transaction stands the same at each moment at which it has committed
          same_reader : (g b : ℕ) (d : Doing) (y : Own) → MomentAt (trace scene es) g b t.node d → Owns d.view p.0 y → HasCommitted y → x ≡ y
          same_reader g b d y a own c =
              elim (order g b j m) [
                | inl o ↦ sym (same_own sx.0.view p.0 p.0 y x (decided_later scene ok es g b j m t.node d sx.0 p.0 y a sx.1 o own (ap is_decided c.2)) p.2 refl)
                | inr o ↦ same_own d.view p.0 p.0 x y (decided_later scene ok es j m g b t.node sx.0 d p.0 x sx.1 a (inl o) p.2 (ap is_decided cx.2)) own refl
              ]

          by_node : (fc : ℕ) × CommittedIn (during (stage_of (run scene k.from.early)) k.takes.place sx.0) u fc × (fc ≤ x.snap.rs) → CommittedBefore (trace scene es) j m u x.snap.rs
          by_node h =
              elim (got_set (run scene k.from.early).nodes k.takes.place h.1.node sx.0.view h.1.view h.1.there) [
                | inl r ↦ home r.0 r.1
                | inr r ↦ (let y = fate_own h.1.view h.1.place h.0 h.1.fate in
                    let b = stood_before scene ok es j sx.1.0 t.node k h.1.node h.1.place h.1.view y.0 r.1 y.1 u h.1.at_node h.1.at_place_ in
                    (b.0, b.1, h.0, y.0, inl b.2, b.3, y.2, h.2))
              ]
            where
              home : h.1.node ≡ k.takes.place → h.1.view ≡ sx.0.view → CommittedBefore (trace scene es) j m u x.snap.rs
              home q v =
                  let number : u.node.0 ≡ k.takes.place + 1 = h.1.at_node ∙ ap (λ b. b + 1) q in
                  let node : u.node ≡ t.node = (let z : u.node ≡ record { 0 = k.takes.place + 1 } = λ s. record { 0 = number s } in z ∙ sym k.node) in
                  strict scene ok es t.node p.0 h.1.place u node h.1.at_place_ (other q v)
                  (λ g b d y a own c. at_home g b t.node d p.0 h.1.place y u a own c (subst (λ (z : Own). ReadFrom z u) (same_reader g b d y a own c) rx) node h.1.at_place_) j m sx.0 x sx.1 p.2 cx
                where
                  other : h.1.node ≡ k.takes.place → h.1.view ≡ sx.0.view → h.1.place ≢ p.0
                  other q v e =
                      let f : own_fate (slice_get sx.0.view.own p.0) ≡ CommittedAt h.0 = ap (λ b. own_fate (slice_get sx.0.view.own b)) (sym e) ∙ (ap (λ (z : View). own_fate (slice_get z.own h.1.place)) (sym v) ∙ h.1.fate) in
                      let y = committed_is x h.0 (ap own_fate (sym p.2) ∙ f) in
                      let s = stand_moment scene ok es j m t.node sx.0 sx.1 in
                      let w = (s.base.times.each p.0 x p.2).fc y.0 h.0 y.1 in
                      let l = (s.base.times.each p.0 x p.2).lc w.0 (ap lc_of y.1 ∙ w.1) in
                      absurd (omega (arith, h.2, w.2, l.0))

  -- each writer that it has read from at some moment committed first
  pub writers_first : WritersFirst (trace scene es)
  writers_first j m j' m' t u x z sx cx sz rz = by_place (of_nth sx.0.view.own t.seq x sx.2) (of_nth sz.0.view.own t.seq z sz.2)
    where
      by_place : (i : ℕ) × (t.seq ≡ i + 1) × Owns sx.0.view i x → (k : ℕ) × (t.seq ≡ k + 1) × Owns sz.0.view k z → CommittedBefore (trace scene es) j m u x.snap.rs
      by_place p q = read_first j m t u x sx cx (elim (order j' m' j m) [ inl o ↦ later_reads o | inr o ↦ subst (λ (y : Own). ReadFrom y u) (sym (still o)) rz ])
        where
          oz : Owns sz.0.view p.0 z
          oz = subst (λ k. Owns sz.0.view k z) (omega (arith, p.1, q.1)) q.2

          -- what it had read it has read when it has committed
          later_reads : (Earlier j' m' j m) ⊎ ((j' ≡ j) × (m' ≡ m)) → ReadFrom x u
          later_reads o =
              let r : ReadDone = rz.0 in
              let h = later scene ok (λ v. ReadAt v.own p.0 r) (λ here good input w c e act g. reads_kept here input w c e act p.0 r g) es j' m' j m t.node sz.0 sx.0 sz.1 sx.1 o (z, oz, in_at z.reads rz.1.0 r rz.1.1) in
              let same : h.0 ≡ x = same_own sx.0.view p.0 p.0 h.0 x h.1 p.2 refl in
              let i = at_in x.reads r (subst (λ (y : Own). In r y.reads) same h.2) in
              (r, (i.0, i.1), rz.2)

          -- it stands the same once it has committed
          still : Earlier j m j' m' → x ≡ z
          still o = same_own sz.0.view p.0 p.0 x z (decided_later scene ok es j m j' m' t.node sx.0 sz.0 p.0 x sx.1 sz.1 (inl o) p.2 (ap is_decided cx.2)) oz refl

-- the gate law of every run
pub gate_law : (scene : Scene) → IsScene scene → (events : List Event) → GateLaw (trace scene events)
gate_law scene ok events =
    record { dependencies = dependencies_first scene ok events; writers = writers_first scene ok events; cascades = cascades scene ok events }

-- Each single change keeps the order of versions at a master.
use Rattle.dependency_set.specs.declared.names.Dep.{Dep}
use Rattle.si_laws.proofs.Dependencies.AroundLocal.{Around, FinalKnown, Stand, far_final, final_below, final_late, local_above, local_below, own_final}
use Rattle.str_model.proofs.Changes.PairWords.{decides_far, not_done, pair-is}
use Rattle.si_laws.proofs.Stages.LinkedStates.{IsCertified, Linked, certified_stays}
use Rattle.str_model.proofs.Changes.MasterChanges.{AreDistinct, VersionAct, comes_distinct, va_accept, va_came, va_commit, va_fewer, va_locals, va_take, version_act}
use Rattle.si_laws.proofs.Order.MasterFacts.{IsBefore, Masters, at_d, by_kind, either_stays, foreign_e, one_e, parts_e, writes_of}
use Rattle.str_model.proofs.OwnFacts.LocalOwners.{open-fate}
use Rattle.str_model.proofs.Changes.VersionChanges.{WaitStep, by_master, w_fewer, w_more, wait_step}
use Rattle.str_model.proofs.Principle.SingleChanges.{Act, Arrives, IsHere, Where, a_prepare, a_read}
use Rattle.str_model.proofs.Principle.Everywhere.{IsSeen, Stage, at_place, during}
use Rattle.str_model.proofs.Changes.VersionsMet.{accept_met}
use Rattle.std.proofs.Common.{List, Some, [], ap, arith, false, inl, inr, refl, slice_get, slice_set, subst, sym, true, ℕ, ◌+◌, ◌-◌, ◌∙◌, ◌∷◌, ◌≡◌, ◌≢◌, ◌⊎◌}
use Rattle.str_base.specs.Versions.{of_pair, settled}
use Rattle.str_base.specs.declared.names.Kind.TheVariants.{Final, Local as LocalKind, Pre}
use Rattle.str_base.specs.declared.names.NodeId.{NodeId}
use Rattle.str_base.specs.declared.names.PartId.{PartId}
use Rattle.str_base.specs.declared.names.Ts.{Ts}
use Rattle.str_base.specs.declared.names.TxId.{TxId}
use Rattle.str_base.specs.declared.names.Version.{Version}
use Rattle.str_base.specs.declared.names.Write.{Write}
use Rattle.str_model.specs.Acts.{pre_version}
use Rattle.str_model.specs.Owned.{Owns}
use Rattle.str_model.specs.Proposals.{Accept, master_turn}
use Rattle.str_model.specs.Steps.{decides}
use Rattle.str_model.specs.Turns
use Rattle.str_model.specs.Turns.{Open, met, own_fate}
use Rattle.str_model.specs.Views.{Doing, Own, View, is_decided, lc_of, name_of}
use Rattle.str_model.specs.declared.messages.Arrived.{Arrived}
use Rattle.str_model.specs.declared.messages.Body.TheVariants.{Prepare}
use Rattle.str_model.specs.declared.messages.Input.{Input}
use Rattle.str_model.specs.declared.messages.Waiter.TheVariants.{Held}
use Rattle.str_model.specs.declared.messages.Waiter.{Waiter}
use Rattle.str_scene.specs.Scenes.{Scene, is_master, part_of}
use Rattle.str_base.proofs.Lists.{get_set_other, got_set}
use Rattle.str_base.proofs.Members.{in_append}
use Rattle.str_base.specs.Members.{In}
use Rattle.str_model.proofs.KindTests.{final_kind}

module _ (scene : Scene) (s : Stage) (i : ℕ) (v : View) (input : Input) (w : Where) (d e : Doing) (is : slice_get s.nodes i ≡ Some v) (seen : IsSeen s input) (act : Act (at_place scene i) input w d e)
    (h : Linked scene (during s i d)) (st : Stand (at_place scene i) d.view) (m : Masters scene (during s i d)) where
  -- ---- order

  -- a version that is accepted comes after those that stand
  accepted_after : (a : Arrived) (ts : ℕ) → IsHere (at_place scene i) input d a → master_turn d.view a ≡ Accept ts → (x : Write) → In x a.writes → (q r : Version) → q ≡ pre_version a ts x → In r d.view.versions
      → r.key ≡ q.key → IsBefore scene (during s i e) r q
  accepted_after a ts g t x j q r z o key =
      let met = accept_met d.view a ts t r x o j (key ∙ ap (λ (y : Version). y.key) z) in
      let ws = writes_of scene s i v input w d e is seen act h st m a (by_master g) in
      record {
        final = final_kind r.kind met.0;
        rs = a.rs.0;
        lc = a.lc.0;
        ws = ws.0;
        certified = certified_stays scene s i v input w d e is act q.tx a.rs.0 a.lc.0 ws.0 (subst (λ (y : Version). IsCertified scene (during s i d) y.tx a.rs.0 a.lc.0 ws.0) (sym z) ws.1);
        below = met.1;
      }

  -- a commit at home comes after those that stand
  committed_after : (j lc fc : ℕ) (x : Own) → Owns d.view j x → is_decided x.phase ≡ false → lc_of x.phase ≡ Some lc → x.snap.deps ≡ [] → (p : Version) → In p d.view.versions → p.tx ≡ name_of (at_place scene i) j
      → (q r : Version) → q ≡ settled fc p → In r d.view.versions → r.key ≡ q.key → q.tx ≢ r.tx → r.kind ≢ LocalKind → IsBefore scene (during s i e) r q
  committed_after j lc fc x own f l none p hp pt q r z hr key ne nl = by_kind p.kind was_pre was_local was_final
    where
      ptx : p.tx ≡ q.tx
      ptx = ap (λ (y : Version). y.tx) (sym z)

      was_pre : p.kind ≡ Pre → IsBefore scene (during s i e) r q
      was_pre k = absurd (m.foreign i d.view (at_d scene s i v input w d e is seen act h st m) p hp k (ap (λ (y : TxId). y.node.0) pt))

      fate : own_fate (slice_get d.view.own (p.tx.seq - 1)) ≡ Turns.Open
      fate =
          let n : p.tx.seq - 1 ≡ j = omega (arith, ap (λ (y : TxId). y.seq) pt) in
          ap (λ (k : ℕ). own_fate (slice_get d.view.own k)) n ∙ (ap own_fate own ∙ open-fate x.phase f)

      of_final : FinalKnown (at_place scene i) d.view p → IsBefore scene (during s i e) r q
      of_final (own_final n g) = absurd (cc (sym g ∙ fate))
      of_final (far_final n g) = absurd (n (ap (λ (y : TxId). y.node.0) pt))

      was_final : p.kind ≡ Final → IsBefore scene (during s i e) r q
      was_final k = of_final (st.finals p hp k)

      of_around : Around (at_place scene i) d.view j x p.ts.0 r → IsBefore scene (during s i e) r q
      of_around (final_below k le) = record {
        final = k;
        rs = x.snap.rs;
        lc = lc;
        ws = x.writes;
        certified = certified_stays scene s i v input w d e is act q.tx x.snap.rs lc x.writes (record { n = i; i = j; view = d.view; x = x; there = (at_d scene s i v input w d e is seen act h st m); own = own; name = sym ptx ∙ pt; lc_is = l; writes = refl; rs_is = refl });
        below = le;
      }
      of_around (final_late k n g t) = absurd (subst (λ (ds : List Dep). In g.0 ds) none g.1)
      of_around (local_below k le n) = absurd (nl k)
      of_around (local_above k y a b c t n) = absurd (nl a)

      was_local : p.kind ≡ LocalKind → IsBefore scene (during s i e) r q
      was_local k = of_around (st.around j x p r own hp k (ap (λ (y : TxId). y.seq) pt) hr (key ∙ ap (λ (y : Version). y.key) z) (λ y. ne (sym ptx ∙ sym y)))

  -- a commit that came keeps the order
  came_after : (from : NodeId) (t : TxId) (u : PartId) (fc : Ts) → decides (at_place scene i) t u d.view ≡ true → (p : Version) → In p d.view.versions → of_pair t u p ≡ true
      → (q r : Version) → q ≡ settled fc.0 p → In r d.view.versions → r.key ≡ q.key → q.tx ≢ r.tx → r.kind ≢ LocalKind → is_master scene (at_place scene i).node q.part ≡ true → IsBefore scene (during s i e) r q
  came_after from t u fc g p hp pt q r z hr key ne nl mas = by_kind p.kind was_pre was_local was_final
    where
      far : p.tx.node.0 ≢ i + 1
      far n = (decides_far (at_place scene i) t u d.view g).0 (sym (ap (λ (y : TxId). y.node.0) (pair-is t u p pt).0) ∙ n)

      ptx : p.tx ≡ q.tx
      ptx = ap (λ (y : Version). y.tx) (sym z)

      was_local : p.kind ≡ LocalKind → IsBefore scene (during s i e) r q
      was_local k = absurd (far (st.base.locals p hp k).node)

      of_final : FinalKnown (at_place scene i) d.view p → IsBefore scene (during s i e) r q
      of_final (own_final n y) = absurd (far n)
      of_final (far_final n y) = absurd (not_done d.view t u p (decides_far (at_place scene i) t u d.view g).1 pt y)

      was_final : p.kind ≡ Final → IsBefore scene (during s i e) r q
      was_final k = of_final (st.finals p hp k)

      of_order : p.kind ≡ Pre → IsBefore scene (during s i d) p r ⊎ IsBefore scene (during s i d) r p → IsBefore scene (during s i e) r q
      of_order k (inl b) = absurd (cc (b.final, k))
      of_order k (inr b) = record {
        final = b.final;
        rs = b.rs;
        lc = b.lc;
        ws = b.ws;
        certified = certified_stays scene s i v input w d e is act q.tx b.rs b.lc b.ws (subst (λ (y : TxId). IsCertified scene (during s i d) y b.rs b.lc b.ws) ptx b.certified);
        below = b.below;
      }

      was_pre : p.kind ≡ Pre → IsBefore scene (during s i e) r q
      was_pre k =
          of_order k (m.order i d.view (at_d scene s i v input w d e is seen act h st m) p r hp hr (ap (λ (y : Version). y.key) (sym z) ∙ sym key) (subst (λ (y : Version). is_master scene (at_place scene i).node y.part ≡ true) z mas)
          (λ y. ne (sym ptx ∙ y)) (λ y. cc (k, y)) nl)

  order_e : (q r : Version) → In q e.view.versions → In r e.view.versions → q.key ≡ r.key → is_master scene (record { 0 = i + 1 }) q.part ≡ true
      → q.tx ≢ r.tx → q.kind ≢ LocalKind → r.kind ≢ LocalKind → IsBefore scene (during s i e) q r ⊎ IsBefore scene (during s i e) r q
  order_e q r hq hr key mas ne lq lr = by_act (version_act (at_place scene i) input w d e act)
    where
      mas_r : is_master scene (record { 0 = i + 1 }) r.part ≡ true
      mas_r = subst (λ (p : PartId). is_master scene (record { 0 = i + 1 }) p ≡ true) (parts_e scene s i v input w d e is seen act h st m q hq ∙ (ap (part_of scene) key ∙ sym (parts_e scene s i v input w d e is seen act h st m r hr))) mas

      old : In q d.view.versions → In r d.view.versions → IsBefore scene (during s i e) q r ⊎ IsBefore scene (during s i e) r q
      old a b = either_stays scene s i v input w d e is seen act h st m q r (m.order i d.view (at_d scene s i v input w d e is seen act h st m) q r a b key mas ne lq lr)

      ne' : r.tx ≢ q.tx
      ne' z = ne (sym z)

      by_act : VersionAct (at_place scene i) input d e → IsBefore scene (during s i e) q r ⊎ IsBefore scene (during s i e) r q
      by_act (va_fewer f) = old (f q hq) (f r hr)
      by_act (va_locals j lc x f) = elim (f q hq) [
        | inl a ↦ (elim (f r hr) [ inl b ↦ old a b | inr b ↦ absurd (lr (ap (λ (z : Version). z.kind) b.2)) ])
        | inr a ↦ absurd (lq (ap (λ (z : Version). z.kind) a.2))
      ]
      by_act (va_accept a ts g t f) = elim (f q hq) [
        | inl x ↦ (elim (f r hr) [ inl y ↦ old x y | inr y ↦ inl (accepted_after a ts g t y.0 y.1 r q y.2 x key) ])
        | inr x ↦ (elim (f r hr) [
          | inl y ↦ inr (accepted_after a ts g t x.0 x.1 q r x.2 y (sym key))
          | inr y ↦ absurd (ne (ap (λ (z : Version). z.tx) x.2 ∙ ap (λ (z : Version). z.tx) (sym y.2)))
        ])
      ]
      by_act (va_take from a ts c t f) = elim (f q hq) [
        | inl x ↦ (elim (f r hr) [ inl y ↦ old x y | inr y ↦ absurd (cc (sym (ap (λ (z : Version). is_master scene (at_place scene i).node z.part) y.2) ∙ mas_r, t.slave)) ])
        | inr x ↦ absurd (cc (sym (ap (λ (z : Version). is_master scene (at_place scene i).node z.part) x.2) ∙ mas, t.slave))
      ]
      by_act (va_commit j lc fc x own o l n f) = elim (f q hq) [
        | inl a ↦ (elim (f r hr) [ inl b ↦ old a b | inr b ↦ inl (committed_after j lc fc x own o l n b.0 b.1 b.2 r q b.3 a key ne' lq) ])
        | inr a ↦ (elim (f r hr) [
          | inl b ↦ inr (committed_after j lc fc x own o l n a.0 a.1 a.2 q r a.3 b (sym key) ne lr)
          | inr b ↦ absurd (ne (ap (λ (z : Version). z.tx) a.3 ∙ (a.2 ∙ (sym b.2 ∙ ap (λ (z : Version). z.tx) (sym b.3)))))
        ])
      ]
      by_act (va_came from t p fc ms c g f) = elim (f q hq) [
        | inl a ↦ (elim (f r hr) [ inl b ↦ old a b | inr b ↦ inl (came_after from t p fc g b.0 b.1 b.2 r q b.3 a key ne' lq mas_r) ])
        | inr a ↦ (elim (f r hr) [
          | inl b ↦ inr (came_after from t p fc g a.0 a.1 a.2 q r a.3 b (sym key) ne lr mas)
          | inr b ↦ absurd (ne (ap (λ (z : Version). z.tx) a.3 ∙ ((pair-is t p a.0 a.2).0 ∙ (sym (pair-is t p b.0 b.2).0 ∙ ap (λ (z : Version). z.tx) (sym b.3)))))
        ])
      ]

  distinct_e : (a : Arrived) → WaitStep (at_place scene i) input d e → In (Held a) e.view.waiters → AreDistinct a.writes
  distinct_e a (w_fewer f) k = m.distinct i d.view (at_d scene s i v input w d e is seen act h st m) a (f (Held a) k)
  distinct_e a (w_more r c q) k = elim (in_append d.view.waiters (r ∷ []) (Held a) (subst (In (Held a)) q k)) [
    | inl j ↦ m.distinct i d.view (at_d scene s i v input w d e is seen act h st m) a j
    | inr j ↦ (elim j [ inl g ↦ arrived r c g | inr z ↦ absurd z ])
  ]
    where
      arrived : (r : Waiter) → Arrives (at_place scene i) input d r → r ≡ Held a → AreDistinct a.writes
      arrived r (a_read from tx k rs c) g = absurd (cc g)
      arrived r (a_prepare from b c u z o) g =
          let same : b ≡ a = cc g in subst (λ (y : Arrived). AreDistinct y.writes) same (comes_distinct (at_place scene i) input from b (Prepare b.tx b.part b.rs b.lc b.writes) c refl)

  node_is : (n : ℕ) (u : View) → slice_get (slice_set s.nodes i e.view) n ≡ Some u → ((n ≡ i) × (u ≡ e.view)) ⊎ ((n ≢ i) × (slice_get (slice_set s.nodes i d.view) n ≡ Some u))
  node_is n u g = elim (got_set s.nodes i n e.view u g) [ inl q ↦ inl q | inr q ↦ inr (q.0, get_set_other s.nodes i n d.view q.0 ∙ q.1) ]

  pub masters_step : Masters scene (during s i e)
  masters_step = record {
    order = λ n u g q r hq hr key mas ne lq lr. elim (node_is n u g) [
      | inl z ↦ order_e q r (subst (λ (y : View). In q y.versions) z.1 hq) (subst (λ (y : View). In r y.versions) z.1 hr) key
          (subst (λ (k : ℕ). is_master scene (record { 0 = k + 1 }) q.part ≡ true) z.0 mas) ne lq lr
      | inr z ↦ either_stays scene s i v input w d e is seen act h st m q r (m.order n u z.1 q r hq hr key mas ne lq lr)
    ];
    one = λ n u g q r hq hr kq kr tx key. elim (node_is n u g) [
      | inl z ↦ one_e scene s i v input w d e is seen act h st m q r (subst (λ (y : View). In q y.versions) z.1 hq) (subst (λ (y : View). In r y.versions) z.1 hr) kq kr tx key
      | inr z ↦ m.one n u z.1 q r hq hr kq kr tx key
    ];
    parts = λ n u g q hq. elim (node_is n u g) [ inl z ↦ parts_e scene s i v input w d e is seen act h st m q (subst (λ (y : View). In q y.versions) z.1 hq) | inr z ↦ m.parts n u z.1 q hq ];
    foreign = λ n u g q hq k. elim (node_is n u g) [
      | inl z ↦ subst (λ (j : ℕ). q.tx.node.0 ≢ j + 1) (sym z.0) (foreign_e scene s i v input w d e is seen act h st m q (subst (λ (y : View). In q y.versions) z.1 hq) k)
      | inr z ↦ m.foreign n u z.1 q hq k
    ];
    distinct = λ n u g a k. elim (node_is n u g) [
      | inl z ↦ distinct_e a (wait_step (at_place scene i) input w d e act) (subst (λ (y : View). In (Held a) y.waiters) z.1 k)
      | inr z ↦ m.distinct n u z.1 a k
    ];
  }

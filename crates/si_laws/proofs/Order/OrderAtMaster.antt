-- The order of versions at a master, over every run.
use Rattle.si_laws.proofs.Dependencies.LocalsApart.{around_after, stand_after, stand_opening}
use Rattle.si_laws.proofs.Dependencies.AroundLocal.{AroundAfter, Stand, after_above, after_below, after_final}
use Rattle.si_laws.proofs.Dependencies.AroundKept.{stand-act}
use Rattle.si_laws.proofs.Order.CertifiedVersions.{begun_at}
use Rattle.si_laws.proofs.Stages.LinkedStates.{IsCertified, Linked, one_certified, one_of}
use Rattle.si_laws.proofs.Stages.AllLinksKept.{linked, linked_step}
use Rattle.si_laws.proofs.Order.MasterFacts.{Masters}
use Rattle.si_laws.proofs.Order.OrderKept.{masters_step}
use Rattle.si_laws.proofs.Stages.ParticipantSeats.{of_nth}
use Rattle.str_model.proofs.Principle.SingleChanges.{Act, Where}
use Rattle.str_model.proofs.Principle.Everywhere.{IsSeen, Stage, at_place, during, everywhere, stage_of}
use Rattle.si_laws.specs.Commits.{seen}
use Rattle.si_laws.specs.Laws.Apart.{IsOrdered, OnePre, OrderAtMaster, OrderHolds}
use Rattle.si_laws.specs.Standing.{Begun}
use Rattle.std.proofs.Common.{Bool, List, Some, [], ap, arith, false, inl, inr, refl, replicate, slice_get, subst, subst₂, sym, true, ℕ, ◌+◌, ◌∙◌, ◌≡◌, ◌≢◌, ◌≤◌}
use Rattle.str_base.specs.Versions.{is_local}
use Rattle.str_base.specs.declared.names.Kind.TheVariants.{Final, Local as LocalKind}
use Rattle.str_base.specs.declared.names.Kind.{Kind}
use Rattle.str_base.specs.declared.names.NodeId.{NodeId}
use Rattle.str_base.specs.declared.names.TxId.{TxId}
use Rattle.str_base.specs.declared.names.Version.{Version}
use Rattle.str_base.specs.declared.names.Write.{Write}
use Rattle.str_model.specs.Owned.{Owns}
use Rattle.str_model.specs.Runs.{opening, opening_view, run}
use Rattle.str_model.specs.Views.{Doing, Own, View}
use Rattle.str_model.specs.declared.messages.Input.{Input}
use Rattle.str_model.specs.declared.messages.Waiter.TheVariants.{Held}
use Rattle.str_scene.specs.SceneLimits.{IsScene}
use Rattle.str_scene.specs.Scenes.{Scene, is_master, nth}
use Rattle.str_scene.specs.declared.names.Event.{Event}
use Rattle.str_base.proofs.SameNames.{cases_tx}
use Rattle.str_base.proofs.Lists.{get_set, get_set_other, got_replicate, got_set}
use Rattle.str_base.proofs.Members.{in_at}
use Rattle.str_base.specs.Members.{In}
use Rattle.str_model.proofs.KindTests.{local_kind}

-- what holds of every state: of messages, around Local versions, and at masters
pub record Governed (scene : Scene) (s : Stage) : Type 0 where
  pub linked_ : Linked scene s
  pub stand : (n : ℕ) (v : View) → slice_get s.nodes n ≡ Some v → Stand (at_place scene n) v
  pub masters : Masters scene s

pub governed-keeps : (scene : Scene) (s : Stage) (i : ℕ) (v : View) (input : Input) (w : Where) (d e : Doing) → slice_get s.nodes i ≡ Some v → IsSeen s input → Governed scene s
    → Act (at_place scene i) input w d e → Governed scene (during s i d) → Governed scene (during s i e)
governed-keeps scene s i v input w d e is seen hs a h =
    let st : Stand (at_place scene i) d.view = h.stand i d.view (get_set s.nodes i v d.view is) in
    record {
      linked_ = linked_step scene s i v input w d e is seen a h.linked_;
      stand = λ n u g. elim (got_set s.nodes i n e.view u g) [
        | inl q ↦ subst₂ (λ (k : ℕ) (z : View). Stand (at_place scene k) z) (sym q.0) (sym q.1) (stand-act (at_place scene i) input w d e a st)
        | inr q ↦ h.stand n u (get_set_other s.nodes i n d.view q.0 ∙ q.1)
      ];
      masters = masters_step scene s i v input w d e is seen a h.linked_ st h.masters;
    }

pub governed_opening : (scene : Scene) → Governed scene (stage_of (opening scene))
governed_opening scene = record {
  linked_ = linked scene [];
  stand = λ n v g. subst (Stand (at_place scene n)) (sym (empty n v g)) (stand_opening (at_place scene n) scene);
  masters = record {
    order = λ n v g q r hq hr key mas ne lq lr. absurd (subst (λ (z : View). In q z.versions) (empty n v g) hq);
    one = λ n v g q r hq hr kq kr tx key. absurd (subst (λ (z : View). In q z.versions) (empty n v g) hq);
    parts = λ n v g q hq. absurd (subst (λ (z : View). In q z.versions) (empty n v g) hq);
    foreign = λ n v g q hq k. absurd (subst (λ (z : View). In q z.versions) (empty n v g) hq);
    distinct = λ n v g a k. absurd (subst (λ (z : View). In (Held a) z.waiters) (empty n v g) k);
  };
}
  where
    empty : (n : ℕ) (v : View) → slice_get (replicate scene.nodes (opening_view scene)) n ≡ Some v → v ≡ opening_view scene
    empty n v g = got_replicate scene.nodes n (opening_view scene) v g

pub governed : (scene : Scene) (es : List Event) → Governed scene (stage_of (run scene es))
governed scene es = everywhere scene (Governed scene) (governed-keeps scene) (governed_opening scene) es

-- ---- the laws

-- a master has one Pre version of a key at most
pub one_pre : (scene : Scene) (events : List Event) (n : NodeId) (v : View) → nth (run scene events).nodes n.0 ≡ Some v → OnePre scene n v
one_pre scene events n v is q r hq hr key kq kr mas =
    let p = of_nth (run scene events).nodes n.0 v is in
    let h = (governed scene events).masters in
    let mas' : is_master scene (record { 0 = p.0 + 1 }) q.part ≡ true = subst (λ (z : NodeId). is_master scene z q.part ≡ true) (λ j. record { 0 = p.1 j }) mas in
    let iq = in_at v.versions hq.0 q hq.1 in
    let ir = in_at v.versions hr.0 r hr.1 in
    elim (cases_tx q.tx r.tx) [
      | inl t ↦ h.one p.0 v p.2 q r iq ir kq kr t key
      | inr f ↦ (elim (h.order p.0 v p.2 q r iq ir key mas' f (λ z. cc (z, kq)) (λ z. cc (z, kr))) [
        | inl b ↦ absurd (cc (b.final, kq))
        | inr b ↦ absurd (cc (b.final, kr))
      ])
    ]

module _ (scene : Scene) (ok : IsScene scene) (events : List Event) where
  -- the snapshot of a begun transaction that is certified
  begun_rs : (t : TxId) (x : Own) (rs lc : ℕ) (ws : List Write) → Begun (run scene events) t x → IsCertified scene (stage_of (run scene events)) t rs lc ws → x.snap.rs ≡ rs
  begun_rs t x rs lc ws b c =
      let st = begun_at scene (run scene events) t x b in
      (one_certified scene (stage_of (run scene events)) st.n st.i st.view x t rs lc ws st.there st.own st.name c).2

  -- a Local version beside one that is not: the other one is final at or below the snapshot
  beside_local : (n : ℕ) (v : View) → slice_get (run scene events).nodes n ≡ Some v → (p q : Version) (x : Own) → In p v.versions → p.kind ≡ LocalKind → In q v.versions → q.key ≡ p.key → q.tx ≢ p.tx → q.kind ≢ LocalKind
      → Begun (run scene events) p.tx x → (q.kind ≡ Final) × (q.ts.0 ≤ x.snap.rs)
  beside_local n v is p q x hp k hq key ne nl b =
      let st = begun_at scene (run scene events) p.tx x b in
      let sa = stand_after scene ok events n v is in
      let o = sa.stand.base.locals p hp k in
      let node : st.n ≡ n = omega (arith, ap (λ (z : TxId). z.node.0) st.name, o.node) in
      let view : st.view ≡ v = one_of st.view v (slice_get (run scene events).nodes n) (subst (λ (j : ℕ). slice_get (run scene events).nodes j ≡ Some st.view) node st.there) is in
      let own : Owns v st.i x = subst (λ (u : View). Owns u st.i x) view st.own in
      by_around st.i x (around_after (at_place scene n) v sa st.i x p q own hp k (ap (λ (z : TxId). z.seq) st.name) hq key ne)
    where
      by_around : (i : ℕ) (x : Own) → AroundAfter (at_place scene n) v i x p.ts.0 q → (q.kind ≡ Final) × (q.ts.0 ≤ x.snap.rs)
      by_around i x (after_final l le) = (l, le)
      by_around i x (after_below l le m) = absurd (nl l)
      by_around i x (after_above j y l t oy le m) = absurd (nl l)

  pub order_at_master : OrderAtMaster scene (run scene events)
  order_at_master n v q r x y is hq hr key mas ne bx by_ =
      let p = of_nth (run scene events).nodes n.0 v is in
      let h = (governed scene events).masters in
      let mas' : is_master scene (record { 0 = p.0 + 1 }) q.part ≡ true = subst (λ (z : NodeId). is_master scene z q.part ≡ true) (λ j. record { 0 = p.1 j }) mas in
      let iq = in_at v.versions hq.0 q hq.1 in
      let ir = in_at v.versions hr.0 r hr.1 in
      by_kinds p.0 p.2 mas' iq ir (is_local q.kind) refl (is_local r.kind) refl
    where
      not_local : (k : Kind) → is_local k ≡ false → k ≢ LocalKind
      not_local k e q = cc (ap is_local q, e)

      by_kinds : (m : ℕ) → slice_get (run scene events).nodes m ≡ Some v → is_master scene (record { 0 = m + 1 }) q.part ≡ true → In q v.versions → In r v.versions
          → (a : Bool) → is_local q.kind ≡ a → (b : Bool) → is_local r.kind ≡ b → IsOrdered q x r y
      by_kinds m there mas' iq ir true ea true eb = inr (inr (local_kind q.kind ea, local_kind r.kind eb))
      by_kinds m there mas' iq ir true ea false eb = inr (inl (beside_local m v there q r x iq (local_kind q.kind ea) ir (sym key) (λ z. ne (sym z)) (not_local r.kind eb) bx))
      by_kinds m there mas' iq ir false ea true eb = inl (beside_local m v there r q y ir (local_kind r.kind eb) iq key ne (not_local q.kind ea) by_)
      by_kinds m there mas' iq ir false ea false eb =
          elim ((governed scene events).masters.order m v there q r iq ir key mas' ne (not_local q.kind ea) (not_local r.kind eb)) [
            | inl z ↦ inl (z.final, omega (arith, z.below, begun_rs r.tx y z.rs z.lc z.ws by_ z.certified))
            | inr z ↦ inr (inl (z.final, omega (arith, z.below, begun_rs q.tx x z.rs z.lc z.ws bx z.certified)))
          ]

pub order_holds : OrderHolds
order_holds scene ok events = order_at_master scene ok events

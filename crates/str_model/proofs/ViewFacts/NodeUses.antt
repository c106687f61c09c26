-- What the facts of a view give where a step reads, certifies, places and takes out.
use Rattle.std.proofs.Common.{List, None, Some, add-sub_cancel, ap, arith, eq-eqb, eqb-true, false, inr, length, ltb-true, refl, slice_get, subst, sym, true, ℕ, ◌&&◌, ◌+◌, ◌-◌, ◌<◌, ◌==◌, ◌∙◌, ◌≡◌, ◌≤◌}
use Rattle.std.proofs.lemmas.Option.{slice_get_within}
use Rattle.std.specs.List.{list_any}
use Rattle.dependency_set.specs.declared.names.Dep.{Dep}
use Rattle.str_base.specs.declared.names.Kind.TheVariants.{Local as LocalKind}
use Rattle.str_base.specs.declared.names.PartId.{PartId}
use Rattle.str_base.specs.declared.names.TxId.{TxId}
use Rattle.str_base.specs.declared.names.Version.{Version}
use Rattle.str_base.specs.declared.names.Write.{Write}
use Rattle.str_model.specs.declared.messages.Arrived.{Arrived}
use Rattle.partition_map.specs.Maps.{is_written}
use Rattle.str_base.specs.Versions.{is_local, of_pair, of_tx, same_key, same_node, same_part, same_tx}
use Rattle.str_model.specs.Arrivals.{held_key}
use Rattle.str_model.specs.NodeFacts.{MomentFacts, OpenTo, WeakDep, how_many}
use Rattle.str_model.specs.Owned.{Owns}
use Rattle.str_model.specs.Proposals.{is_known}
use Rattle.str_model.specs.Strange.{has_key, has_node}
use Rattle.str_model.specs.Turns.{Open, own_fate, phase_fate}
use Rattle.str_model.specs.Views.{Own, View, is_decided, lc_of, name_of}
use Rattle.str_scene.specs.SceneLimits.{IsScene}
use Rattle.str_scene.specs.Scenes.{Here, hosts, part_of}
use Rattle.str_model.proofs.OwnFacts.TurnsBelow.{OpenAt}
use Rattle.str_model.proofs.OwnFacts.EarlierDependencies.{earlier}
use Rattle.str_model.proofs.OwnFacts.FewOwn.{is_certain, others_few}
use Rattle.str_model.proofs.OwnFacts.LocalOwners.{same_own}
use Rattle.str_model.proofs.Changes.PairWords.{any_has}
use Rattle.str_model.proofs.Changes.PairChanges.{unknown_not}
use Rattle.str_model.proofs.OwnFacts.DependenciesStand.{fate_open}
use Rattle.str_model.proofs.ViewFacts.ValidMessages.{NamedWrites}
use Rattle.std.proofs.lemmas.Bool.{and_from, false_from_ne_true}
use Rattle.str_base.proofs.Members.{any_in}
use Rattle.str_base.proofs.SameNames.{same_part-is}
use Rattle.str_base.proofs.Tests.{and_true_left, and_true_right}
use Rattle.str_base.proofs.Lists.{found_passes}
use Rattle.str_base.specs.Members.{In}
use Rattle.str_model.proofs.KindTests.{local_kind}

-- ---- whom a read and a certification are told of

-- the number is that of a certified undecided own transaction
pub record IsCertain (v : View) (seq : ℕ) : Type 0 where
  pub place : ℕ
  pub owner : Own
  pub number : seq ≡ place + 1
  pub owns : Owns v place owner
  pub open_ : is_decided owner.phase ≡ false
  pub lc : ℕ
  pub is_lc : lc_of owner.phase ≡ Some lc

-- Where the i-th own transaction x reads or is certified: each of its dependencies is certified and undecided, so is each writer of a Local version, and so is each
-- dependency of a writer of a Local version at or below its snapshot. There are at most 15 such transactions.
pub record ReadReady (here : Here) (v : View) (x : Own) : Type 0 where
  pub deps : (dep : Dep) → In dep x.snap.deps → IsCertain v dep.seq
  pub origins : (u : Version) → In u v.versions → u.kind ≡ LocalKind → IsCertain v u.tx.seq
  pub own_node : (u : Version) → In u v.versions → u.kind ≡ LocalKind → u.tx.node.0 ≡ here.node.0
  pub others : (u : Version) → In u v.versions → u.kind ≡ LocalKind → u.ts.0 ≤ x.snap.rs → (o : Own) → slice_get v.own (u.tx.seq - 1) ≡ Some o → (dep : Dep) → In dep o.snap.deps → IsCertain v dep.seq
  pub few : how_many is_certain v.own ≤ 15

module _ (here : Here) (v : View) (h : MomentFacts here v) where
  -- a dependency whose fate is open
  certain_dep : (j : ℕ) (y : Own) (dep : Dep) → WeakDep v j y dep → own_fate (slice_get v.own (dep.seq - 1)) ≡ Open → IsCertain v dep.seq
  certain_dep j y dep w f =
      let at : slice_get v.own (dep.seq - 1) ≡ Some w.owner = ap (λ n. slice_get v.own (n - 1)) w.seq ∙ (ap (λ n. slice_get v.own n) (add-sub_cancel w.place 1) ∙ w.owns) in
      let p : phase_fate w.owner.phase ≡ Open = sym (ap own_fate at) ∙ f in
      record { place = w.place; owner = w.owner; number = w.seq; owns = w.owns; open_ = fate_open v.floor w.lc w.owner (h.base.times.each w.place w.owner w.owns) w.is_lc p; lc = w.lc; is_lc = w.is_lc }

  pub read_ready : IsScene here.scene → has_node here here.node ≡ true → (i : ℕ) (x : Own) → Owns v i x → is_decided x.phase ≡ false → lc_of x.phase ≡ None → OpenTo v i → OpenAt v i
      → ReadReady here v x
  read_ready ok exists i x own op none below at =
      record {
        deps = λ dep m. certain_dep i x dep (h.base.deps i x dep own op m) (at x dep own op m);
        origins = λ u m k. (let o = h.base.locals u m k in record { place = o.place; owner = o.owner; number = o.seq; owns = o.owns; open_ = o.open_; lc = u.ts.0; is_lc = o.lc });
        own_node = λ u m k. (h.base.locals u m k).node;
        others = λ u m k le z is dep j. (let o = h.base.locals u m k in
            let owns : Owns v o.place z = sym (ap (λ n. slice_get v.own n) (ap (λ n. n - 1) o.seq ∙ add-sub_cancel o.place 1)) ∙ is in
            let same = same_own v o.place o.place o.owner z o.owns owns refl in
            let first = earlier v h.base.times o.place i u.ts.0 o.owner x o.owns own o.lc le in
            let open_ : is_decided z.phase ≡ false = ap (λ (y : Own). is_decided y.phase) (sym same) ∙ o.open_ in
            certain_dep o.place z dep (h.base.deps o.place z dep owns open_ j) (below o.place z dep first owns open_ j));
        few = others_few here ok exists v.own h.order i x own op none;
      }

  -- at the beginning of a step all dependencies are open
  pub open_at : (i : ℕ) (x : Own) → Owns v i x → OpenTo v (length v.own) → OpenAt v i
  open_at i x own f y dep own' op m = f i y dep (slice_get_within v.own i x own) own' op m

  -- ---- versions of an own transaction

  same_named : (i : ℕ) (u : Version) → of_tx (name_of here i) u ≡ true → (u.tx.node.0 ≡ here.node.0) × (u.tx.seq ≡ i + 1)
  same_named i u e =
      (eqb-true u.tx.node.0 here.node.0 (and_true_left (same_node u.tx.node here.node) (u.tx.seq == i + 1) e), eqb-true u.tx.seq (i + 1) (and_true_right (same_node u.tx.node here.node) (u.tx.seq == i + 1) e))

  -- one that isn't certified has none
  pub none_before : (i : ℕ) (x : Own) → Owns v i x → lc_of x.phase ≡ None → (u : Version) → In u v.versions → of_tx (name_of here i) u ≡ false
  none_before i x own none u m = false_from_ne_true (of_tx (name_of here i) u) (λ e.
      let n = same_named i u e in
      let o = (h.versions u m).own n.0 in
      let same = same_own v o.place i o.owner x o.owns own (omega (arith, o.seq, n.1)) in
      cc (ap (λ (z : Own). lc_of z.phase) same, o.is_lc, none))

  -- each stands in a partition that its transaction wrote in
  pub all_written : (i : ℕ) (x : Own) → Owns v i x → (u : Version) → In u v.versions → of_tx (name_of here i) u ≡ true → is_written (part_of here.scene) x.writes u.part ≡ true
  all_written i x own u m e =
      let n = same_named i u e in
      let f = h.versions u m in
      let o = f.own n.0 in
      let same = same_own v o.place i o.owner x o.owns own (omega (arith, o.seq, n.1)) in
      let w : In o.write x.writes = subst (λ (z : Own). In o.write z.writes) same o.written in
      let p : part_of here.scene o.write.key ≡ u.part = ap (λ k. part_of here.scene k) o.key ∙ sym f.part in
      any_in (λ (z : Write). same_part (part_of here.scene z.key) u.part) x.writes o.write w (eq-eqb (part_of here.scene o.write.key).0 u.part.0 (ap (λ (z : PartId). z.0) p))

  -- ---- what arrives

  -- where no version of the pair stands, none stands of a written key by the transaction
  pub none_of_key : (a : Arrived) → NamedWrites here a.tx a.part a.rs a.lc a.writes → ((u : Version) → In u v.versions → of_pair a.tx a.part u ≡ false) → (u : Version) → In u v.versions
      → (w : Write) → In w a.writes → same_tx u.tx a.tx ≡ true → same_key u.key w.key ≡ true → ⊥
  none_of_key a n f u m w j t k =
      let key : u.key ≡ w.key = λ i. record { 0 = eqb-true u.key.0 w.key.0 k i } in
      let part : u.part ≡ a.part = (h.versions u m).part ∙ (ap (λ z. part_of here.scene z) key ∙ same_part-is (part_of here.scene w.key) a.part (n.keys w j).1) in
      let p : same_part u.part a.part ≡ true = eq-eqb u.part.0 a.part.0 (ap (λ (z : PartId). z.0) part) in
      cc (f u m, and_from (same_tx u.tx a.tx) (same_part u.part a.part) t p)

  -- a pair that is not known has no version
  pub unknown_none : (a : Arrived) → is_known v a.tx a.part ≡ false → (u : Version) → In u v.versions → of_pair a.tx a.part u ≡ false
  unknown_none a f u m = false_from_ne_true (of_pair a.tx a.part u) (λ e. unknown_not a.tx a.part v f (inr (u, m, e)))

  -- a version elsewhere is beside what arrives here: of another partition, and of none of the keys
  pub is_beside : (a : Arrived) → NamedWrites here a.tx a.part a.rs a.lc a.writes → hosts here.scene here.node a.part ≡ true → (u : Version) → In u v.versions → hosts here.scene here.node u.part ≡ false
      → (same_part u.part a.part ≡ false) × (list_any (λ w. same_key u.key w.key) a.writes ≡ false)
  is_beside a n hs u m f = (
    false_from_ne_true (same_part u.part a.part) (λ e. other (same_part-is u.part a.part e)),
    false_from_ne_true (list_any (λ (w : Write). same_key u.key w.key) a.writes) (λ e.
        let r = any_has (λ (w : Write). same_key u.key w.key) a.writes e in
        let key : u.key ≡ r.0.key = λ i. record { 0 = eqb-true u.key.0 r.0.key.0 r.2 i } in
        other ((h.versions u m).part ∙ (ap (λ z. part_of here.scene z) key ∙ same_part-is (part_of here.scene r.0.key) a.part (n.keys r.0 r.1).1))),
  )
    where
      other : u.part ≡ a.part → ⊥
      other e = cc (sym f ∙ ap (λ q. hosts here.scene here.node q) e, hs)

  -- each key has a mark
  pub have_marks : (k : _) → has_key here k ≡ true → k.0 < length v.marks
  have_marks k e = let l = ltb-true k.0 (length here.scene.keys.names) e in omega (arith, l, h.marks)

  -- ---- evictions

  -- who holds a key is an undecided own transaction
  pub held_open : (q : ℕ) (ws : List Write) (w : Write) → (let tx : TxId = record { node = here.node; seq = q } in held_key v.versions tx ws) ≡ Some w → IsCertain v q
  held_open q ws w e =
      let tx : TxId = record { node = here.node; seq = q } in
      let t = found_passes (λ (w : Write). list_any (λ u. same_key u.key w.key && (of_tx tx u && is_local u.kind)) v.versions) ws w e in
      let r = any_has (λ (u : Version). same_key u.key w.key && (of_tx tx u && is_local u.kind)) v.versions t in
      let both = and_true_right (same_key r.0.key w.key) (of_tx tx r.0 && is_local r.0.kind) r.2 in
      let o = h.base.locals r.0 r.1 (local_kind r.0.kind (and_true_right (of_tx tx r.0) (is_local r.0.kind) both)) in
      let s : r.0.tx.seq ≡ q = eqb-true r.0.tx.seq q (and_true_right (same_node r.0.tx.node here.node) (r.0.tx.seq == q) (and_true_left (of_tx tx r.0) (is_local r.0.kind) both)) in
      record { place = o.place; owner = o.owner; number = sym s ∙ o.seq; owns = o.owns; open_ = o.open_; lc = r.0.ts.0; is_lc = o.lc }

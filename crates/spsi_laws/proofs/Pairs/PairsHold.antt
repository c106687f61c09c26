-- The law Pairs: of two that an undecided transaction or one of its dependencies has read from or depends on, and that wrote one key, one is before the other.
use Rattle.si_laws.proofs.Dependencies.LocalsApart.{StandAfter, around_after, stand_after}
use Rattle.si_laws.proofs.Dependencies.AroundLocal.{AroundAfter, after_above, after_below, after_final}
use Rattle.si_laws.proofs.Order.CertifiedVersions.{BegunAt, begun_at, one_state}
use Rattle.si_laws.proofs.Dependencies.DependencyFates.{FreeOnceCommitted, free-act}
use Rattle.si_laws.proofs.Reasons.CommitsAfter.{committed_is}
use Rattle.si_laws.proofs.Guards.GuardGrounds.{committer}
use Rattle.si_laws.proofs.Stages.LinkedStates.{one_of}
use Rattle.si_laws.proofs.Sources.FinalsReported.{CommittedIn}
use Rattle.si_laws.proofs.Stages.ParticipantSeats.{of_nth}
use Rattle.si_laws.specs.SpeculativeIsolation.{RestsFurther, RestsOn}
use Rattle.si_laws.specs.Standing.{Before, IsCommitted, IsOpen, by_commit, by_node}
use Rattle.spsi_laws.proofs.Pairs.ReadsCounted.{Counted, ReadsVia, by_dep, c_final, c_listed, its_own}
use Rattle.spsi_laws.proofs.Dependencies.DependenciesLive.{name_by, named_stands}
use Rattle.spsi_laws.proofs.Pairs.DependenciesNested.{IsNested}
use Rattle.spsi_laws.proofs.Pairs.WritersOrdered.{committed_apart}
use Rattle.spsi_laws.proofs.Pairs.StepsPaired.{Paired, paired}
use Rattle.spsi_laws.proofs.Pairs.WritersTied.{Ordered, Shares, Tied, are_tied, first, is_first, last, over, same_one, under}
use Rattle.spsi_laws.specs.Laws.Dependencies.{StandsFor}
use Rattle.spsi_laws.specs.Laws.Pairs.{PairsHold, PairsHoldFurther}
use Rattle.std.proofs.Common.{List, Option, Some, [], add-sub_cancel, ap, arith, false, inl, inr, refl, slice_get, subst, sym, true, ℕ, ◌+◌, ◌-◌, ◌∙◌, ◌≡◌, ◌≢◌, ◌≤◌, ◌⊎◌}
use Rattle.std.proofs.lemmas.Option.{slice_get_within}
use Rattle.dependency_set.specs.declared.names.Dep.{Dep}
use Rattle.str_base.specs.declared.names.NodeId.{NodeId}
use Rattle.str_base.specs.declared.names.TxId.{TxId}
use Rattle.str_model.proofs.Principle.Everywhere.{at_each_node, at_place, stage_of}
use Rattle.str_model.proofs.Changes.SnapshotsGain.{Names}
use Rattle.str_model.specs.Acts.{local_version}
use Rattle.str_model.specs.Owned.{Owns}
use Rattle.str_model.specs.Runs.{run}
use Rattle.str_model.specs.Turns.{CommittedAt, own_fate}
use Rattle.str_model.specs.Turns
use Rattle.str_model.specs.Views.{Own, View, is_decided, lc_of, name_of}
use Rattle.str_model.specs.declared.names.ReadDone.{ReadDone}
use Rattle.str_scene.specs.SceneLimits.{IsScene}
use Rattle.str_scene.specs.Scenes.{Scene}
use Rattle.str_scene.specs.declared.names.Event.{Event}
use Rattle.str_model.proofs.OwnFacts.LocalOwners.{same_own}
use Rattle.std.proofs.lemmas.Bool.{cases_eq}
use Rattle.str_base.proofs.Members.{in_at}
use Rattle.str_base.proofs.SameNames.{cases_tx}
use Rattle.str_base.specs.Members.{In}

-- one of two is before the other, or they are one
abbrev pub Either : TxId → Own → TxId → Own → Type 0
Either t x u y = (t ≡ u) ⊎ (Before t x u y ⊎ Before u y t x)

turned_round : (t u : TxId) (x y : Own) → Either t x u y → Either u y t x
turned_round t u x y (inl e) = inl (sym e)
turned_round t u x y (inr (inl b)) = inr (inr b)
turned_round t u x y (inr (inr b)) = inr (inl b)

shares_round : (x y : Own) → Shares x y → Shares y x
shares_round x y h = (h.1, h.0, h.3, h.2, sym h.4)

not_both : (x : Own) (f : ℕ) → IsCommitted x f → is_decided x.phase ≡ false → ⊥
not_both x f c o = let d : is_decided x.phase ≡ true = ap is_decided c.1 in cc (d, o)

fate_committed : (v : View) (b f : ℕ) (y : Own) → Owns v b y → own_fate (slice_get v.own b) ≡ CommittedAt f → IsCommitted y f
fate_committed v b f y own e = committed_is y f (sym (ap own_fate own) ∙ e)

module _ (scene : Scene) (ok : IsScene scene) (es : List Event) (n i : ℕ) (v : View) (x : Own) (there : slice_get (run scene es).nodes n ≡ Some v) (own : Owns v i x) (op : IsOpen x) where
  known : Paired scene (stage_of (run scene es))
  known = paired scene ok es

  after : StandAfter (at_place scene n) v
  after = stand_after scene ok es n v there

  free : FreeOnceCommitted v
  free = at_each_node scene ok FreeOnceCommitted (λ i x own c. absurd (cc own)) (λ here good input w b c act h. free-act here input w b c act h) es n v there

  -- it has committed, or is a dependency
  data Status (t : TxId) : Type 0 where
    st_final : (r : ReadDone) (fc : ℕ) → ReadsVia v x r → r.by ≡ Some t → CommittedIn (stage_of (run scene es)) t fc → Status t
    st_open : t.node.0 ≡ n + 1 → Names t.seq x.snap.deps → Status t

  status_read : (r : ReadDone) (t : TxId) → ReadsVia v x r → r.by ≡ Some t → Status t
  status_read r t via by = by_count (known.middle.counted n i v x r t there own op via by)
    where
      by_count : Counted (stage_of (run scene es)) n x t → Status t
      by_count (c_final fc c le) = st_final r fc via by c
      by_count (c_listed node names) = st_open node names

  -- a dependency has no final timestamp
  dep_open : (j : ℕ) (y : Own) (seq fc : ℕ) → Owns v j y → is_decided y.phase ≡ false → Names seq y.snap.deps → own_fate (slice_get v.own (seq - 1)) ≡ CommittedAt fc → ⊥
  dep_open j y seq fc oy py names f =
      let o : own_fate (slice_get v.own (seq - 1)) ≡ Turns.Open = ap (λ (k : ℕ). own_fate (slice_get v.own (k - 1))) (sym names.2) ∙ after.deps_open.below j y names.0 (slice_get_within v.own j y oy) oy py names.1 in
      cc (sym f ∙ o)

  status : (m : NodeId) → m.0 ≡ n + 1 → (t : TxId) → RestsFurther (run scene es) m x t → Status t
  status m e t (inl (inl rf)) = status_read rf.0 t (its_own (in_at x.reads rf.1.0 rf.0 rf.1.1)) rf.2
  status m e t (inl (inr dp)) = st_open (ap (λ (z : NodeId). z.0) dp.0 ∙ e) (dp.1.1, in_at x.snap.deps dp.1.0 dp.1.1 dp.1.2, dp.1.3)
  status m e t (inr (c, y, dc, bc, rest)) = by_rest rest
    where
      names : Names c.seq x.snap.deps
      names = (dc.1.1, in_at x.snap.deps dc.1.0 dc.1.1 dc.1.2, dc.1.3)

      node : c.node.0 ≡ n + 1
      node = ap (λ (z : NodeId). z.0) dc.0 ∙ e

      d : (d : Dep) × StandsFor v x d × (d.seq ≡ c.seq)
      d = named_stands scene ok es n i v x there own op c.seq names

      seq : c.seq ≡ d.1.place + 1
      seq = sym d.2 ∙ d.1.seq

      same : d.1.owner ≡ y
      same = one_state scene (stage_of (run scene es)) c d.1.owner y (record { n = n; i = d.1.place; view = v; there = there; own = d.1.owns; name = name_by scene c n d.1.place node seq }) (begun_at scene (run scene es) c y bc)

      owns : Owns v d.1.place y
      owns = subst (Owns v d.1.place) same d.1.owns

      open_y : is_decided y.phase ≡ false
      open_y = ap (λ (z : Own). is_decided z.phase) (sym same) ∙ d.1.open_

      at : Names (d.1.place + 1) x.snap.deps
      at = (names.0, names.1, names.2 ∙ seq)

      nested : Names t.seq y.snap.deps → IsNested v x t.seq → t.node.0 ≡ n + 1 → Status t
      nested ny (inl nx) node_t = st_open node_t nx
      nested ny (inr f) node_t = absurd (dep_open d.1.place y t.seq f.0 owns open_y ny f.1)

      by_rest : RestsOn m y t → Status t
      by_rest (inl rf) = status_read rf.0 t (by_dep d.1.place y owns at (in_at y.reads rf.1.0 rf.0 rf.1.1)) rf.2
      by_rest (inr dp) =
          let ny : Names t.seq y.snap.deps = (dp.1.1, in_at y.snap.deps dp.1.0 dp.1.1 dp.1.2, dp.1.3) in
          nested ny (known.middle.nested n v there i d.1.place x y t.seq own op owns at ny) (ap (λ (z : NodeId). z.0) dp.0 ∙ e)

  -- a dependency as it stands
  record OpenOne (t : TxId) (y : Own) : Type 0 where
    place : ℕ
    lc : ℕ
    owns : Owns v place y
    name : t ≡ name_of (at_place scene n) place
    open_ : is_decided y.phase ≡ false
    is_lc : lc_of y.phase ≡ Some lc
    names : Names (place + 1) x.snap.deps

  open_one : (t : TxId) (y : Own) → BegunAt scene (stage_of (run scene es)) t y → t.node.0 ≡ n + 1 → Names t.seq x.snap.deps → OpenOne t y
  open_one t y b node names =
      let d = named_stands scene ok es n i v x there own op t.seq names in
      let seq : t.seq ≡ d.1.place + 1 = sym d.2 ∙ d.1.seq in
      let name : t ≡ name_of (at_place scene n) d.1.place = name_by scene t n d.1.place node seq in
      let same : d.1.owner ≡ y = one_state scene (stage_of (run scene es)) t d.1.owner y (record { n = n; i = d.1.place; view = v; there = there; own = d.1.owns; name = name }) b in
      record {
        place = d.1.place;
        lc = d.1.lc;
        owns = subst (Owns v d.1.place) same d.1.owns;
        name = name;
        open_ = ap (λ (z : Own). is_decided z.phase) (sym same) ∙ d.1.open_;
        is_lc = ap (λ (z : Own). lc_of z.phase) (sym same) ∙ d.1.is_lc;
        names = (names.0, names.1, names.2 ∙ seq);
      }

  -- both are undecided
  both_open : (t u : TxId) (y z : Own) → OpenOne t y → OpenOne u z → Shares y z → Either t y u z
  both_open t u y z a b sh = by_place (cases_eq a.place b.place)
    where
      stands_a : In (local_version (at_place scene n) a.place a.lc sh.0) v.versions
      stands_a = (known.middle.grounds_.governed_.linked_.home n v there a.place y a.owns).locals a.open_ a.lc a.is_lc sh.0 sh.2

      stands_b : In (local_version (at_place scene n) b.place b.lc sh.1) v.versions
      stands_b = (known.middle.grounds_.governed_.linked_.home n v there b.place z b.owns).locals b.open_ b.lc b.is_lc sh.1 sh.3

      node : t.node ≡ u.node
      node = ap (λ (k : TxId). k.node) (a.name ∙ (λ j. name_of (at_place scene n) a.place)) ∙ ap (λ (k : TxId). k.node) (sym b.name)

      by_around : AroundAfter (at_place scene n) v b.place z b.lc (local_version (at_place scene n) a.place a.lc sh.0) → Either t y u z
      by_around (after_final k le) = absurd (cc k)
      by_around (after_below k le names) = inr (inl (by_node a.lc a.open_ b.open_ node a.is_lc le))
      by_around (after_above j w k q ow le names) =
          let same : w ≡ y = same_own v j a.place w y ow a.owns (omega (arith, q)) in
          inr (inr (by_node b.lc b.open_ a.open_ (sym node) b.is_lc (omega (arith, le, ap (λ (o : Own). o.snap.rs) same))))

      by_place : (a.place ≡ b.place) ⊎ (a.place ≢ b.place) → Either t y u z
      by_place (inl q) = inl (a.name ∙ (ap (name_of (at_place scene n)) q ∙ sym b.name))
      by_place (inr ne) =
          by_around (around_after (at_place scene n) v after b.place z (local_version (at_place scene n) b.place b.lc sh.1) (local_version (at_place scene n) a.place a.lc sh.0) b.owns stands_b refl refl stands_a sh.4
          (λ q. ne (omega (arith, ap (λ (k : TxId). k.seq) q))))

  -- the one has committed, the other is undecided
  final_open : (t u : TxId) (y z : Own) (r : ReadDone) (fc : ℕ) → BegunAt scene (stage_of (run scene es)) t y → ReadsVia v x r → r.by ≡ Some t → CommittedIn (stage_of (run scene es)) t fc → OpenOne u z → Shares y z → Either t y u z
  final_open t u y z r fc bt via by c b sh = inr (inl (by_order (known.pairs n i v x there own op r t b.place via by b.names)))
    where
      is : IsCommitted y fc
      is = let k = committer scene (stage_of (run scene es)) t fc c in subst (λ (o : Own). IsCommitted o fc) (one_state scene (stage_of (run scene es)) t k.x y k.at_ bt) k.is

      same_view : (w : View) → slice_get (run scene es).nodes n ≡ Some w → w ≡ v
      same_view w e = one_of w v (slice_get (run scene es).nodes n) e there

      by_tied : (a : ℕ) → Owns v a y → Tied v a y b.place z → Before t y u z
      by_tied a oa (same_one q) = absurd (not_both z fc (subst (λ (o : Own). IsCommitted o fc) (same_own v a b.place y z oa b.owns q) is) b.open_)
      by_tied a oa (under names) =
          absurd (dep_open b.place z (a + 1) fc b.owns b.open_ names (ap (λ (k : ℕ). own_fate (slice_get v.own k)) (add-sub_cancel a 1) ∙ (ap own_fate oa ∙ ap Rattle.str_model.specs.Turns.phase_fate is.1)))
      by_tied a oa (over names) = absurd (subst (In names.0) (free a y oa (is.0, Some fc, is.1)) names.1)
      by_tied a oa (first g f le) = by_commit g (fate_committed v a g y oa f) le
      by_tied a oa (last g f le) = absurd (not_both z g (fate_committed v b.place g z b.owns f) b.open_)

      by_order : Ordered scene (stage_of (run scene es)) n t b.place → Before t y u z
      by_order (is_first gc lc w o cg tw ow l le) =
          let ov : Owns v b.place o = subst (λ (k : View). Owns k b.place o) (same_view w tw) ow in
          let same : o ≡ z = same_own v b.place b.place o z ov b.owns refl in
          let k = committer scene (stage_of (run scene es)) t gc cg in
          by_commit gc (subst (λ (q : Own). IsCommitted q gc) (one_state scene (stage_of (run scene es)) t k.x y k.at_ bt) k.is) (omega (arith, le, ap (λ (q : Own). q.snap.rs) same))
      by_order (are_tied w a la lb p q tw ow oq name lx ly f) =
          let oa : Owns v a p = subst (λ (k : View). Owns k a p) (same_view w tw) ow in
          let ob : Owns v b.place q = subst (λ (k : View). Owns k b.place q) (same_view w tw) oq in
          let sp : p ≡ y = one_state scene (stage_of (run scene es)) t p y (record { n = n; i = a; view = v; there = there; own = oa; name = name }) bt in
          let sq : q ≡ z = same_own v b.place b.place q z ob b.owns refl in
          let shares : Shares p q = Rattle.std.proofs.Common.subst₂ (λ (g h : Own). Shares g h) (sym sp) (sym sq) sh in
          let tied : Tied v a p b.place q = subst (λ (k : View). Tied k a p b.place q) (same_view w tw) (f shares) in
          by_tied a (subst (Owns v a) sp oa) (Rattle.std.proofs.Common.subst₂ (λ (g h : Own). Tied v a g b.place h) sp sq tied)

  ordered_two : (t u : TxId) (y z : Own) → BegunAt scene (stage_of (run scene es)) t y → BegunAt scene (stage_of (run scene es)) u z → Status t → Status u → Shares y z → Either t y u z
  ordered_two t u y z bt bu (st_open nt at) (st_open nu au) sh = both_open t u y z (open_one t y bt nt at) (open_one u z bu nu au) sh
  ordered_two t u y z bt bu (st_final r fc via by c) (st_open nu au) sh = final_open t u y z r fc bt via by c (open_one u z bu nu au) sh
  ordered_two t u y z bt bu (st_open nt at) (st_final r fc via by c) sh =
      turned_round u t z y (final_open u t z y r fc bu via by c (open_one t y bt nt at) (shares_round y z sh))
  ordered_two t u y z bt bu (st_final r f via by c) (st_final q g via' by' c') sh = elim (cases_tx t u) [
    | inl e ↦ inl e
    | inr ne ↦ (elim (committed_apart scene ok es t u y z f g sh.0 sh.1 bt bu (is t y f bt c) (is u z g bu c') sh.2 sh.3 sh.4 ne) [
      | inl le ↦ inr (inl (by_commit f (is t y f bt c) le))
      | inr le ↦ inr (inr (by_commit g (is u z g bu c') le))
    ])
  ]
    where
      is : (a : TxId) (o : Own) (h : ℕ) → BegunAt scene (stage_of (run scene es)) a o → CommittedIn (stage_of (run scene es)) a h → IsCommitted o h
      is a o h b k = let m = committer scene (stage_of (run scene es)) a h k in subst (λ (q : Own). IsCommitted q h) (one_state scene (stage_of (run scene es)) a m.x o m.at_ b) m.is

pub pairs_hold_further : PairsHoldFurther
pairs_hold_further scene ok es n v i x there own op t u rt ru y z k bt bu wt wu =
    let p = of_nth (run scene es).nodes n.0 v there in
    ordered_two scene ok es p.0 i v x p.2 own op t u y z (begun_at scene (run scene es) t y bt) (begun_at scene (run scene es) u z bu) (status scene ok es p.0 i v x p.2 own op n p.1 t rt) (status scene ok es p.0 i v x p.2 own op n p.1 u ru)
    (record { key = k; value = wt.0 }, record { key = k; value = wu.0 }, in_at y.writes wt.1.0 (record { key = k; value = wt.0 }) wt.1.1, in_at z.writes wu.1.0 (record { key = k; value = wu.0 }) wu.1.1, refl)

pub pairs_hold : PairsHold
pairs_hold scene ok es n v i x there own op t u rt ru = pairs_hold_further scene ok es n v i x there own op t u (inl rt) (inl ru)

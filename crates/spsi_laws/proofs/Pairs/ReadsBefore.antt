-- Each that a transaction or one of its dependencies has read from is before each of its dependencies, where both wrote one key: what keeps it, and what
-- makes it so where a snapshot grows.
use Rattle.std.proofs.Common.{List, Some, [], add-sub_cancel, ap, arith, false, inl, inr, refl, slice_get, slice_set, subst, sym, true, ℕ, ◌+◌, ◌-◌, ◌∙◌, ◌≡◌, ◌≢◌, ◌≤◌, ◌⊎◌}
use Rattle.dependency_set.specs.Snapshots.{Snap, holds}
use Rattle.dependency_set.specs.declared.names.Dep.{Dep}
use Rattle.si_laws.proofs.Dependencies.AroundLocal.{Around, Stand, final_below, final_late, local_above, local_below}
use Rattle.si_laws.proofs.Guards.GuardGrounds.{Grounds, grounds_step}
use Rattle.si_laws.proofs.Sources.FinalsReported.{Reported}
use Rattle.spsi_laws.proofs.Pairs.ReadsCounted.{AllCounted, Counted, ReadsVia, by_dep, c_final, c_listed, counted_act, dep_reads, its_own, via_back}
use Rattle.spsi_laws.proofs.Pairs.SnapshotsGrow.{gate_below}
use Rattle.spsi_laws.proofs.Pairs.CertifiedLast.{CertifiedWith, left_names, reads_last}
use Rattle.spsi_laws.proofs.Pairs.ReadsMove.{Moves, OwnMove, m_begins, m_rests, m_sets, mv_grows, mv_resolve, mv_same, own_move}
use Rattle.spsi_laws.proofs.Pairs.DependenciesNested.{AllNested, nested_act}
use Rattle.spsi_laws.proofs.Pairs.WritersTied.{Ordered, Shares, Tied, are_tied, is_first, ordered_act, ordered_path, over, same_one, under}
use Rattle.str_base.specs.declared.names.TxId.{TxId}
use Rattle.str_model.proofs.Principle.SingleChanges.{Act, InTurn, Path, Where, along}
use Rattle.str_model.proofs.Principle.Everywhere.{IsSeen, Stage, at_place, during}
use Rattle.str_model.proofs.Changes.SnapshotsGain.{Names}
use Rattle.str_model.specs.Acts.{fresh, local_version}
use Rattle.str_model.specs.Owned.{Owns}
use Rattle.str_model.specs.Turns.{own_fate}
use Rattle.str_model.specs.Turns
use Rattle.str_model.specs.Views.{Doing, Own, View, is_decided, lc_of}
use Rattle.str_model.specs.declared.messages.Input.{Input}
use Rattle.str_model.specs.declared.names.ReadDone.{ReadDone}
use Rattle.str_scene.specs.SceneLimits.{IsScene}
use Rattle.str_scene.specs.Scenes.{Scene}
use Rattle.str_model.proofs.OwnFacts.DependenciesStand.{fate_open}
use Rattle.str_model.proofs.OwnFacts.LocalOwners.{WeakDep, same_own}
use Rattle.str_model.proofs.OwnFacts.TurnsBelow.{UpTo, keeps_up_to, leaves}
use Rattle.str_base.proofs.Lists.{get_set, get_set_other, got_push, got_set}
use Rattle.std.proofs.lemmas.Bool.{cases_eq}
use Rattle.str_base.specs.Members.{In}

-- of one transaction
abbrev pub PairsOf : Scene → Stage → ℕ → View → Own → Type 0
PairsOf scene s n v x = (r : ReadDone) (t : TxId) (b : ℕ) → ReadsVia v x r → r.by ≡ Some t → Names (b + 1) x.snap.deps → Ordered scene s n t b

-- of each undecided one
abbrev pub AllPaired : Scene → Stage → Type 0
AllPaired scene s = (n i : ℕ) (v : View) (x : Own) → slice_get s.nodes n ≡ Some v → Owns v i x → is_decided x.phase ≡ false → PairsOf scene s n v x

-- where nothing is read and no dependency is gained: an undecided one was so with these reads and at least these dependencies, or it is new
abbrev pub Calm : View → View → Type 0
Calm d e =
    (j : ℕ) (y : Own) → Owns e j y → is_decided y.phase ≡ false
    → ((x : Own) × Owns d j x × (is_decided x.phase ≡ false) × (y.reads ≡ x.reads) × ((seq : ℕ) → Names seq y.snap.deps → Names seq x.snap.deps)) ⊎ ((y.reads ≡ []) × (y.snap.deps ≡ []))

pub calm_same : (d e : View) (j : ℕ) (y : Own) → Owns d j y → is_decided y.phase ≡ false
    → ((x : Own) × Owns d j x × (is_decided x.phase ≡ false) × (y.reads ≡ x.reads) × ((seq : ℕ) → Names seq y.snap.deps → Names seq x.snap.deps)) ⊎ ((y.reads ≡ []) × (y.snap.deps ≡ []))
calm_same d e j y own op = inl (y, own, op, refl, λ seq n. n)

nothing_via : (v : View) (y : Own) (r : ReadDone) → y.reads ≡ [] → y.snap.deps ≡ [] → ReadsVia v y r → ⊥
nothing_via v y r a b (its_own m) = subst (In r) a m
nothing_via v y r a b (by_dep k z oz names m) = subst (In names.0) b names.1

-- ---- a path that is calm

module _ (scene : Scene) (s : Stage) (i : ℕ) (v : View) (input : Input) (is : slice_get s.nodes i ≡ Some v) (seen : IsSeen s input) (w : Where) (d e : Doing) (p : Path (at_place scene i) input w d e)
    (kept : Reported scene (during s i d)) where
  via_before : (j : ℕ) (x y : Own) (r : ReadDone) → Owns d.view j x → is_decided x.phase ≡ false → y.reads ≡ x.reads → ((seq : ℕ) → Names seq y.snap.deps → Names seq x.snap.deps)
      → ReadsVia e.view y r → ReadsVia d.view x r
  via_before j x y r own op rd nm (its_own m) = its_own (subst (In r) rd m)
  via_before j x y r own op rd nm (by_dep k z oz names m) =
      let nx = nm (k + 1) names in
      let b : WeakDep d.view j x nx.0 = (kept.base i d.view (get_set s.nodes i v d.view is)).deps j x nx.0 own op nx.1 in
      let place : b.place ≡ k = omega (arith, b.seq, nx.2) in
      let oo : Owns d.view k b.owner = subst (λ (q : ℕ). Owns d.view q b.owner) place b.owns in
      let l : CertifiedWith k b.lc b.owner.reads e.view = reads_last (at_place scene i) input w d e p k b.lc b.owner oo b.is_lc in
      let same : l.x ≡ z = same_own e.view k k l.x z l.own oz refl in
      by_dep k b.owner oo nx (subst (In r) l.reads (subst (λ (u : Own). In r u.reads) (sym same) m))

  pub calm_paired : Calm d.view e.view → AllPaired scene (during s i d) → AllPaired scene (during s i e)
  calm_paired calm h n j u y there own op r t b via by names = elim (got_set s.nodes i n e.view u there) [
    | inl q ↦ subst (λ (k : ℕ). Ordered scene (during s i e) k t b) (sym q.0) (by_calm (calm j y (subst (λ (z : View). Owns z j y) q.1 own) op) (subst (λ (z : View). ReadsVia z y r) q.1 via))
    | inr q ↦ ordered_path scene s i v input is seen w d e p kept n t b (h n j u y (get_set_other s.nodes i n d.view q.0 ∙ q.1) own op r t b via by names)
  ]
    where
      by_calm : ((x : Own) × Owns d.view j x × (is_decided x.phase ≡ false) × (y.reads ≡ x.reads) × ((seq : ℕ) → Names seq y.snap.deps → Names seq x.snap.deps)) ⊎ ((y.reads ≡ []) × (y.snap.deps ≡ []))
          → ReadsVia e.view y r → Ordered scene (during s i e) i t b
      by_calm (inl c) vi =
          ordered_path scene s i v input is seen w d e p kept i t b
          (h i j d.view c.0 (get_set s.nodes i v d.view is) c.1 c.2 r t b (via_before j c.0 y r c.1 c.2 c.3 c.4 vi) by (c.4 (b + 1) names))
      by_calm (inr c) vi = absurd (nothing_via e.view y r c.0 c.1 vi)

-- ---- where a snapshot has just grown

module _ (scene : Scene) (s : Stage) (i : ℕ) (v : View) (e : Doing) (is : slice_get s.nodes i ≡ Some v) (g : Grounds scene (during s i e)) (counted : AllCounted (during s i e)) (m : ℕ)
    (up : UpTo (at_place scene i) m e.view) where
  at_e : slice_get (slice_set s.nodes i e.view) i ≡ Some e.view
  at_e = get_set s.nodes i v e.view is

  -- a dependency of it is certified and undecided
  open_dep : (y : Own) → Owns e.view m y → is_decided y.phase ≡ false → (dep : Dep) → In dep y.snap.deps → (b : WeakDep e.view m y dep) × (is_decided b.owner.phase ≡ false)
  open_dep y own op dep mem =
      let b = up.base.deps m y dep own op mem in
      let at : dep.seq - 1 ≡ b.place = ap (λ n. n - 1) b.seq ∙ add-sub_cancel b.place 1 in
      let fate : own_fate (slice_get e.view.own b.place) ≡ Turns.Open = ap (λ n. own_fate (slice_get e.view.own n)) (sym at) ∙ up.at_it y dep own op mem in
      (b, fate_open e.view.floor b.lc b.owner (up.base.times.each b.place b.owner b.owns) b.is_lc (sym (ap own_fate b.owns) ∙ fate))

  -- two undecided ones that have Local versions of a key
  tied_locals : (a la b lb : ℕ) (x y : Own) → Owns e.view a x → Owns e.view b y → lc_of x.phase ≡ Some la → lc_of y.phase ≡ Some lb → is_decided x.phase ≡ false → is_decided y.phase ≡ false → Shares x y
      → Tied e.view a x b y
  tied_locals a la b lb x y ox oy lx ly px py sh = by_place (cases_eq a b)
    where
      st : Stand (at_place scene i) e.view
      st = g.governed_.stand i e.view at_e

      stands_a : In (local_version (at_place scene i) a la sh.0) e.view.versions
      stands_a = (g.governed_.linked_.home i e.view at_e a x ox).locals px la lx sh.0 sh.2

      stands_b : In (local_version (at_place scene i) b lb sh.1) e.view.versions
      stands_b = (g.governed_.linked_.home i e.view at_e b y oy).locals py lb ly sh.1 sh.3

      apart : a ≢ b → (local_version (at_place scene i) a la sh.0).tx ≢ (local_version (at_place scene i) b lb sh.1).tx
      apart ne q = ne (omega (arith, ap (λ (t : TxId). t.seq) q))

      by_around : Around (at_place scene i) e.view b y lb (local_version (at_place scene i) a la sh.0) → Tied e.view a x b y
      by_around (final_below k le) = absurd (cc k)
      by_around (final_late k n names f) = absurd (cc k)
      by_around (local_below k le names) = under names
      by_around (local_above j z k q oz le names) = over (subst (λ (u : Own). Names (b + 1) u.snap.deps) (same_own e.view j a z x oz ox (omega (arith, q))) names)

      by_place : (a ≡ b) ⊎ (a ≢ b) → Tied e.view a x b y
      by_place (inl q) = same_one q
      by_place (inr ne) = by_around (st.around b y (local_version (at_place scene i) b lb sh.1) (local_version (at_place scene i) a la sh.0) oy stands_b refl refl stands_a sh.4 (apart ne))

  pub grown_paired : (y : Own) → Owns e.view m y → is_decided y.phase ≡ false → holds y.snap ≡ true → PairsOf scene (during s i e) i e.view y
  grown_paired y own op hold r t b via by names = by_count (counted i m e.view y r t at_e own op via by)
    where
      w : (q : WeakDep e.view m y names.0) × (is_decided q.owner.phase ≡ false)
      w = open_dep y own op names.0 names.1

      place : w.0.place ≡ b
      place = omega (arith, w.0.seq, names.2)

      owns_b : Owns e.view b w.0.owner
      owns_b = subst (λ (k : ℕ). Owns e.view k w.0.owner) place w.0.owns

      gate : y.snap.ffc ≤ w.0.owner.snap.rs
      gate = let l = gate_below y.snap.ffc y.snap.deps names.0 hold names.1 in let k : w.0.owner.snap.rs ≡ names.0.rs.0 = ap (λ z. z.0) w.0.rs in omega (arith, l, k)

      by_count : Counted (during s i e) i y t → Ordered scene (during s i e) i t b
      by_count (c_final fc c le) = is_first fc w.0.lc e.view w.0.owner c at_e owns_b w.0.is_lc (omega (arith, le, gate))
      by_count (c_listed node nm) =
          let a = open_dep y own op nm.0 nm.1 in
          let seq : t.seq ≡ a.0.place + 1 = sym nm.2 ∙ a.0.seq in
          are_tied e.view a.0.place a.0.lc w.0.lc a.0.owner w.0.owner at_e a.0.owns owns_b (λ j. record { node = record { 0 = node j }; seq = seq j }) a.0.is_lc w.0.is_lc
          (λ sh. tied_locals a.0.place a.0.lc b w.0.lc a.0.owner w.0.owner a.0.owns owns_b a.0.is_lc w.0.is_lc a.1 w.1 sh)

-- ---- a turn in which a snapshot may grow

-- what is known of the stage
pub record Middle (scene : Scene) (s : Stage) : Type 0 where
  pub grounds_ : Grounds scene s
  pub counted : AllCounted s
  pub nested : (n : ℕ) (v : View) → slice_get s.nodes n ≡ Some v → AllNested v

module _ (scene : Scene) (ok : IsScene scene) (s : Stage) (hs : Grounds scene s) (i : ℕ) (v : View) (input : Input) (is : slice_get s.nodes i ≡ Some v) (seen : IsSeen s input) where
  pub middle_act : (w : Where) (d e : Doing) → Act (at_place scene i) input w d e → Middle scene (during s i d) → Middle scene (during s i e)
  middle_act w d e act h = record {
    grounds_ = grounds_step scene ok s i v input w d e is seen hs act h.grounds_;
    counted = counted_act scene s i v input is seen w d e act h.grounds_.reported h.counted;
    nested = λ n u there. elim (got_set s.nodes i n e.view u there) [
      | inl q ↦ subst AllNested (sym q.1) (nested_act (at_place scene i) input w d e act (h.grounds_.reported.base i d.view (get_set s.nodes i v d.view is)) (h.nested i d.view (get_set s.nodes i v d.view is)))
      | inr q ↦ h.nested n u (get_set_other s.nodes i n d.view q.0 ∙ q.1)
    ];
  }

  pub middle_path : (w : Where) (d e : Doing) → Path (at_place scene i) input w d e → Middle scene (during s i d) → Middle scene (during s i e)
  middle_path w d e p h = along (at_place scene i) input w (λ z. Middle scene (during s i z)) (middle_act w) d e p h

  -- the turn of the m-th own transaction, once its dependencies are all undecided
  module _ (m : ℕ) where
    record Turned (d : Doing) : Type 0 where
      middle : Middle scene (during s i d)
      up : UpTo (at_place scene i) m d.view
      paired : AllPaired scene (during s i d)

    active_act : (d e : Doing) → Act (at_place scene i) input (InTurn m) d e → Turned d → Turned e
    active_act d e act h = record { middle = middle_e; up = up_e; paired = paired_e }
      where
        middle_e : Middle scene (during s i e)
        middle_e = middle_act (InTurn m) d e act h.middle

        up_e : UpTo (at_place scene i) m e.view
        up_e = keeps_up_to (at_place scene i) input m d e act h.up

        kept : Reported scene (during s i d)
        kept = h.middle.grounds_.reported

        at_d : slice_get (slice_set s.nodes i d.view) i ≡ Some d.view
        at_d = get_set s.nodes i v d.view is

        lift : (n : ℕ) (t : TxId) (b : ℕ) → Ordered scene (during s i d) n t b → Ordered scene (during s i e) n t b
        lift n t b o = ordered_act scene s i v input is seen (InTurn m) d e act kept n t b o

        stayed : (j : ℕ) (y : Own) → Owns d.view j y → is_decided y.phase ≡ false → PairsOf scene (during s i e) i e.view y
        stayed j y own op r t b via by names =
            lift i t b (h.paired i j d.view y at_d own op r t b (via_back scene s i v input is seen (InTurn m) d e act kept j y r own op via) by names)

        less : (j : ℕ) (x y : Own) → Owns d.view j x → is_decided x.phase ≡ false → y.reads ≡ x.reads → ((seq : ℕ) → Names seq y.snap.deps → Names seq x.snap.deps) → PairsOf scene (during s i e) i e.view y
        less j x y own op rd nm r t b via by names = lift i t b (h.paired i j d.view x at_d own op r t b (back via) by (nm (b + 1) names))
          where
            back : ReadsVia e.view y r → ReadsVia d.view x r
            back (its_own k) = its_own (subst (In r) rd k)
            back (by_dep k z oz nz mz) = let nx = nm (k + 1) nz in let o = dep_reads scene s i v input is seen (InTurn m) d e act kept j k x z r own op nx oz mz in by_dep k o.0 o.1 nx o.2

        by_move : (x y : Own) → Owns d.view m x → is_decided x.phase ≡ false → Owns e.view m y → is_decided y.phase ≡ false → Moves d.view x y → PairsOf scene (during s i e) i e.view y
        by_move x y own op own' op' (mv_same sn rd f) = less m x y own op rd (λ seq n. subst (λ (z : Snap). Names seq z.deps) sn n)
        by_move x y own op own' op' (mv_resolve t q eq) =
            less m x y own op (ap (λ (z : Own). z.reads) eq) (λ seq n. left_names d.view x.snap t q seq (subst (λ (z : Own). Names seq z.snap.deps) eq n))
        by_move x y own op own' op' (mv_grows none gr hold ro) = grown_paired scene s i v e is middle_e.grounds_ middle_e.counted m up_e y own' op' hold

        at_it : (y : Own) → Owns e.view m y → is_decided y.phase ≡ false → OwnMove d.view e.view → PairsOf scene (during s i e) i e.view y
        at_it y own op (m_rests q) = stayed m y (subst (λ (xs : List Own). slice_get xs m ≡ Some y) q own) op
        at_it y own op (m_begins place rs q) = elim (got_push d.view.own m (fresh place rs) y (subst (λ (xs : List Own). slice_get xs m ≡ Some y) q own)) [
          | inl a ↦ (λ r t b via by names. absurd (subst (λ (u : Own). In names.0 u.snap.deps) a.1 names.1))
          | inr a ↦ stayed m y a op
        ]
        at_it y own op (m_sets k x z o op' q mv) = elim (got_set d.view.own k m z y (subst (λ (xs : List Own). slice_get xs m ≡ Some y) q own)) [
          | inl a ↦ by_move x y (subst (λ (b : ℕ). Owns d.view b x) (sym a.0) o) op' own op (subst (Moves d.view x) (sym a.1) mv)
          | inr a ↦ stayed m y a.1 op
        ]

        here_e : (j : ℕ) (y : Own) → Owns e.view j y → is_decided y.phase ≡ false → PairsOf scene (during s i e) i e.view y
        here_e j y own op = elim (cases_eq j m) [
          | inl q ↦ at_it y (subst (λ (k : ℕ). Owns e.view k y) q own) op (own_move (at_place scene i) input (InTurn m) d e act)
          | inr ne ↦ stayed j y (sym ((leaves (at_place scene i) input (InTurn m) d e (λ q. cc q) act).others j ne) ∙ own) op
        ]

        paired_e : AllPaired scene (during s i e)
        paired_e n j u y there own op r t b via by names = elim (got_set s.nodes i n e.view u there) [
          | inl q ↦ subst (λ (k : ℕ). Ordered scene (during s i e) k t b) (sym q.0)
              (here_e j y (subst (λ (z : View). Owns z j y) q.1 own) op r t b (subst (λ (z : View). ReadsVia z y r) q.1 via) by names)
          | inr q ↦ lift n t b (h.paired n j u y (get_set_other s.nodes i n d.view q.0 ∙ q.1) own op r t b via by names)
        ]

    pub active_path : (d e : Doing) → Path (at_place scene i) input (InTurn m) d e → Middle scene (during s i d) → UpTo (at_place scene i) m d.view → AllPaired scene (during s i d) → AllPaired scene (during s i e)
    active_path d e p mid up h = (along (at_place scene i) input (InTurn m) Turned active_act d e p (record { middle = mid; up = up; paired = h })).paired

-- What a transaction or one of its dependencies has read from is counted: it is final at or below the greatest final timestamp that was taken in, or is a
-- dependency still.
use Rattle.std.proofs.Common.{List, None, Option, Some, [], add-sub_cancel, ap, arith, false, inl, inr, refl, slice_get, slice_set, subst, sym, ℕ, ◌+◌, ◌-◌, ◌∙◌, ◌∷◌, ◌≡◌, ◌≤◌, ◌⊎◌}
use Rattle.dependency_set.specs.Snapshots.{Snap}
use Rattle.dependency_set.specs.declared.names.Dep.{Dep}
use Rattle.si_laws.proofs.Sources.FinalsReported.{CommittedIn, Reported, lift_c}
use Rattle.spsi_laws.proofs.Pairs.SnapshotsGrow.{GainsAll, Grows}
use Rattle.spsi_laws.proofs.Pairs.CertifiedLast.{SettledIn, fates_on, lasts_act, left_names, looked}
use Rattle.spsi_laws.proofs.Pairs.ReadsMove.{Moves, OwnMove, ReadsOn, Source, m_begins, m_rests, m_sets, mv_grows, mv_resolve, mv_same, no_read, one_read, own_move, src_final, src_local, src_none, src_reply}
use Rattle.str_base.specs.declared.names.TxId.{TxId}
use Rattle.str_model.proofs.Principle.SingleChanges.{Act, Where}
use Rattle.str_model.proofs.Principle.Everywhere.{IsSeen, Stage, at_place, during}
use Rattle.str_model.proofs.Changes.SnapshotsGain.{Names}
use Rattle.str_model.specs.Acts.{fresh}
use Rattle.str_model.specs.Owned.{Owns}
use Rattle.str_model.specs.Turns.{DepTurn, dep_turn, left_by, own_fate}
use Rattle.str_model.specs.Views.{Doing, Own, Reply, View, is_decided, lc_of}
use Rattle.str_model.specs.declared.messages.Input.{Input}
use Rattle.str_model.specs.declared.names.ReadDone.{ReadDone}
use Rattle.str_scene.specs.Scenes.{Scene}
use Rattle.str_model.proofs.OwnFacts.LocalOwners.{Depends, LocalOwner, WeakDep, same_own}
use Rattle.str_base.proofs.Lists.{get_set, get_set_other, got_push, got_set}
use Rattle.str_base.proofs.Members.{in_append}
use Rattle.str_base.specs.Members.{In}

-- a read of the transaction, or of one that it depends on
pub data ReadsVia (v : View) (x : Own) (r : ReadDone) : Type 0 where
  its_own : In r x.reads → ReadsVia v x r
  by_dep : (k : ℕ) (z : Own) → Owns v k z → Names (k + 1) x.snap.deps → In r z.reads → ReadsVia v x r

pub data Counted (s : Stage) (n : ℕ) (x : Own) (t : TxId) : Type 0 where
  c_final : (fc : ℕ) → CommittedIn s t fc → fc ≤ x.snap.ffc → Counted s n x t
  c_listed : t.node.0 ≡ n + 1 → Names t.seq x.snap.deps → Counted s n x t

-- of each undecided transaction
abbrev pub AllCounted : Stage → Type 0
AllCounted s =
    (n i : ℕ) (v : View) (x : Own) (r : ReadDone) (t : TxId) → slice_get s.nodes n ≡ Some v → Owns v i x → is_decided x.phase ≡ false → ReadsVia v x r → r.by ≡ Some t → Counted s n x t

module _ (scene : Scene) (s : Stage) (i : ℕ) (v : View) (input : Input) (is : slice_get s.nodes i ≡ Some v) (seen : IsSeen s input) (w : Where) (d e : Doing) (act : Act (at_place scene i) input w d e)
    (kept : Reported scene (during s i d)) where
  at_d : slice_get (slice_set s.nodes i d.view) i ≡ Some d.view
  at_d = get_set s.nodes i v d.view is

  at_e : slice_get (slice_set s.nodes i e.view) i ≡ Some e.view
  at_e = get_set s.nodes i v e.view is

  up : (t : TxId) (fc : ℕ) → CommittedIn (during s i d) t fc → CommittedIn (during s i e) t fc
  up t fc c = lift_c scene s i v input is seen d e w act kept t fc c

  base : Depends (at_place scene i) d.view
  base = kept.base i d.view at_d

  -- a certified one has the reads that it had
  old_reads : (k lc : ℕ) (o z : Own) (r : ReadDone) → Owns d.view k o → lc_of o.phase ≡ Some lc → Owns e.view k z → In r z.reads → In r o.reads
  old_reads k lc o z r oo l oz m =
      let h = lasts_act (at_place scene i) input w d e act k lc o oo l in
      let same : h.y ≡ z = same_own e.view k k h.y z h.own oz refl in
      subst (In r) h.reads (subst (λ (y : Own). In r y.reads) (sym same) m)

  -- a dependency of an undecided one is certified
  pub dep_reads : (j k : ℕ) (x z : Own) (r : ReadDone) → Owns d.view j x → is_decided x.phase ≡ false → Names (k + 1) x.snap.deps → Owns e.view k z → In r z.reads → (o : Own) × Owns d.view k o × In r o.reads
  dep_reads j k x z r own op names oz m =
      let b : WeakDep d.view j x names.0 = base.deps j x names.0 own op names.1 in
      let place : b.place ≡ k = omega (arith, b.seq, names.2) in
      let oo : Owns d.view k b.owner = subst (λ (q : ℕ). Owns d.view q b.owner) place b.owns in
      (b.owner, oo, old_reads k b.lc b.owner z r oo b.is_lc oz m)

  pub via_back : (j : ℕ) (x : Own) (r : ReadDone) → Owns d.view j x → is_decided x.phase ≡ false → ReadsVia e.view x r → ReadsVia d.view x r
  via_back j x r own op (its_own m) = its_own m
  via_back j x r own op (by_dep k z oz names m) = let o = dep_reads j k x z r own op names oz m in by_dep k o.0 o.1 names o.2

  lift : (n : ℕ) (x : Own) (t : TxId) → Counted (during s i d) n x t → Counted (during s i e) n x t
  lift n x t (c_final fc c le) = c_final fc (up t fc c) le
  lift n x t (c_listed node names) = c_listed node names

  module _ (h : AllCounted (during s i d)) where
    -- one that stays as it was
    stayed : (j : ℕ) (x : Own) (r : ReadDone) (t : TxId) → Owns d.view j x → is_decided x.phase ≡ false → ReadsVia e.view x r → r.by ≡ Some t → Counted (during s i e) i x t
    stayed j x r t own op via by = lift i x t (h i j d.view x r t at_d own op (via_back j x r own op via) by)

    -- one that moves
    module _ (n : ℕ) (x y : Own) (own : Owns d.view n x) (op : is_decided x.phase ≡ false) (r : ReadDone) (t : TxId) (by : r.by ≡ Some t) where
      counted_x : ReadsVia d.view x r → Counted (during s i d) i x t
      counted_x via = h i n d.view x r t at_d own op via by

      same_via : y.snap ≡ x.snap → y.reads ≡ x.reads → ReadsVia e.view y r → ReadsVia d.view x r
      same_via sn rd (its_own m) = its_own (subst (In r) rd m)
      same_via sn rd (by_dep k z oz names m) = let nx : Names (k + 1) x.snap.deps = subst (λ (q : Snap). Names (k + 1) q.deps) sn names in let o = dep_reads n k x z r own op nx oz m in by_dep k o.0 o.1 nx o.2

      same_counted : y.snap ≡ x.snap → Counted (during s i d) i x t → Counted (during s i e) i y t
      same_counted sn (c_final fc c le) = c_final fc (up t fc c) (omega (arith, le, ap (λ (q : Snap). q.ffc) sn))
      same_counted sn (c_listed node names) = c_listed node (subst (λ (q : Snap). Names t.seq q.deps) (sym sn) names)

      looked_counted : (u : DepTurn) → dep_turn d.view.own x.snap ≡ u → y ≡ record x { snap = left_by u x.snap } → ReadsVia e.view y r → Counted (during s i e) i y t
      looked_counted u q eq via = by_count (counted_x (back via))
        where
          sn : y.snap ≡ left_by u x.snap
          sn = ap (λ (z : Own). z.snap) eq

          back : ReadsVia e.view y r → ReadsVia d.view x r
          back (its_own m) = its_own (subst (In r) (ap (λ (z : Own). z.reads) eq) m)
          back (by_dep k z oz names m) =
              let nx : Names (k + 1) x.snap.deps = left_names d.view x.snap u q (k + 1) (subst (λ (p : Snap). Names (k + 1) p.deps) sn names) in
              let o = dep_reads n k x z r own op nx oz m in by_dep k o.0 o.1 nx o.2

          settled : t.node.0 ≡ i + 1 → SettledIn d.view.own x.snap.rs (left_by u x.snap).ffc t.seq → Names t.seq x.snap.deps → Counted (during s i e) i y t
          settled node z names =
              let b : WeakDep d.view n x names.0 = base.deps n x names.0 own op names.1 in
              let seq : t.seq ≡ b.place + 1 = sym names.2 ∙ b.seq in
              c_final z.0
              (record {
                node = i;
                at_node = node;
                place = b.place;
                at_place_ = seq;
                view = e.view;
                there = at_e;
                fate = fates_on (at_place scene i) input w d e act b.place z.0 (ap (λ (k : ℕ). own_fate (slice_get d.view.own k)) (sym (ap (λ (k : ℕ). k - 1) seq ∙ add-sub_cancel b.place 1)) ∙ z.1);
              }) (omega (arith, z.3, ap (λ (p : Snap). p.ffc) sn))

          by_count : Counted (during s i d) i x t → Counted (during s i e) i y t
          by_count (c_final fc c le) = let l = (looked d.view x.snap u q).more in c_final fc (up t fc c) (omega (arith, le, l, ap (λ (p : Snap). p.ffc) sn))
          by_count (c_listed node names) = elim ((looked d.view x.snap u q).each t.seq names) [
            | inl m ↦ c_listed node (subst (λ (p : Snap). Names t.seq p.deps) (sym sn) m)
            | inr z ↦ settled node z names
          ]

      module _ (g : Grows d.view x.snap y.snap) where
        grown : Counted (during s i d) i x t → Counted (during s i e) i y t
        grown (c_final fc c le) = let l = g.ffc in c_final fc (up t fc c) (omega (arith, le, l))
        grown (c_listed node names) = let k = g.kept names.0 names.1 in c_listed node (k.0, k.1, k.2 ∙ names.2)

        new_source : Source d.view x y.snap r → Counted (during s i e) i y t
        new_source (src_none q) = absurd (let z : None ≡ Some t = sym q ∙ by in cc z)
        new_source (src_final q m k b le) =
            let z : Some q.tx ≡ Some t = sym b ∙ by in
            let same : q.tx ≡ t = cc z in
            c_final q.ts.0 (subst (λ (u : TxId). CommittedIn (during s i e) u q.ts.0) same (up q.tx q.ts.0 (kept.finals i d.view q at_d m k))) le
        new_source (src_local q m k b names) =
            let z : Some q.tx ≡ Some t = sym b ∙ by in
            let same : q.tx ≡ t = cc z in
            let o : LocalOwner (at_place scene i) d.view q = base.locals q m k in
            let there : slice_get d.view.own (q.tx.seq - 1) ≡ Some o.owner = ap (λ (k : ℕ). slice_get d.view.own (k - 1)) o.seq ∙ (ap (λ (k : ℕ). slice_get d.view.own k) (add-sub_cancel o.place 1) ∙ o.owns) in
            c_listed (ap (λ (u : TxId). u.node.0) (sym same) ∙ o.node) (subst (λ (u : TxId). Names u.seq y.snap.deps) same (names o.owner there))
        new_source (src_reply k a fc p le) =
            let c = kept.phases i d.view n x k a t fc at_d own (p ∙ ap (λ (b : Option TxId). Reply k a b fc) by) in c_final fc (up t fc c.0) le

        own_read : ReadsOn d.view x y → In r y.reads → Counted (during s i e) i y t
        own_read (no_read q) m = grown (counted_x (its_own (subst (In r) q m)))
        own_read (one_read r' q src) m = elim (in_append x.reads (r' ∷ []) r (subst (In r) q m)) [
          | inl k ↦ grown (counted_x (its_own k))
          | inr k ↦ (elim k [ inl z ↦ new_source (subst (Source d.view x y.snap) z src) | inr z ↦ absurd z ])
        ]

        gained : (k : ℕ) (z : Own) → Owns e.view k z → (dep : Dep) → dep.seq ≡ k + 1 → In r z.reads → GainsAll d.view x.snap.rs y.snap dep → Counted (during s i e) i y t
        gained k z oz dep seq m ga = by_count (h i lo.place d.view lo.owner r t at_d lo.owns lo.open_ (via ga.which) by)
          where
            lo : LocalOwner (at_place scene i) d.view ga.version
            lo = base.locals ga.version ga.is_in ga.kind

            same : lo.owner ≡ ga.owner
            same = same_own d.view lo.place (ga.version.tx.seq - 1) lo.owner ga.owner lo.owns ga.there (sym (ap (λ (n : ℕ). n - 1) lo.seq ∙ add-sub_cancel lo.place 1))

            via : (dep.seq ≡ ga.version.tx.seq) ⊎ In dep ga.owner.snap.deps → ReadsVia d.view lo.owner r
            via (inl q) =
                let place : lo.place ≡ k = omega (arith, q, seq, lo.seq) in
                let oo : Owns d.view k lo.owner = subst (λ (b : ℕ). Owns d.view b lo.owner) place lo.owns in its_own (old_reads k ga.version.ts.0 lo.owner z r oo lo.lc oz m)
            via (inr j) =
                let names : Names (k + 1) lo.owner.snap.deps = (dep, subst (λ (u : Own). In dep u.snap.deps) (sym same) j, seq) in
                let o = dep_reads lo.place k lo.owner z r lo.owns lo.open_ names oz m in by_dep k o.0 o.1 names o.2

            by_count : Counted (during s i d) i lo.owner t → Counted (during s i e) i y t
            by_count (c_final fc c le) = let l = ga.ffc in c_final fc (up t fc c) (omega (arith, le, l, ap (λ (u : Own). u.snap.ffc) same))
            by_count (c_listed node names) = let q = ga.deps names.0 (subst (λ (u : Own). In names.0 u.snap.deps) same names.1) in c_listed node (q.0, q.1, q.2 ∙ names.2)

        grows_counted : ReadsOn d.view x y → ReadsVia e.view y r → Counted (during s i e) i y t
        grows_counted ro (its_own m) = own_read ro m
        grows_counted ro (by_dep k z oz names m) = elim (g.gained names.0 names.1) [
          | inl j ↦ (let nx : Names (k + 1) x.snap.deps = (names.0, j, names.2) in let o = dep_reads n k x z r own op nx oz m in grown (counted_x (by_dep k o.0 o.1 nx o.2)))
          | inr ga ↦ gained k z oz names.0 names.2 m ga
        ]

      moved : Moves d.view x y → ReadsVia e.view y r → Counted (during s i e) i y t
      moved (mv_same sn rd f) via = same_counted sn (counted_x (same_via sn rd via))
      moved (mv_resolve u q eq) via = looked_counted u q eq via
      moved (mv_grows none g hold ro) via = grows_counted g ro via

    here_e : (j : ℕ) (y : Own) (r : ReadDone) (t : TxId) → OwnMove d.view e.view → Owns e.view j y → is_decided y.phase ≡ false → ReadsVia e.view y r → r.by ≡ Some t → Counted (during s i e) i y t
    here_e j y r t (m_rests q) own op via by = stayed j y r t (subst (λ (xs : List Own). slice_get xs j ≡ Some y) q own) op via by
    here_e j y r t (m_begins place rs q) own op via by = elim (got_push d.view.own j (fresh place rs) y (subst (λ (xs : List Own). slice_get xs j ≡ Some y) q own)) [
      | inl a ↦ absurd (none a.1 via)
      | inr a ↦ stayed j y r t a op via by
    ]
      where
        none : y ≡ fresh place rs → ReadsVia e.view y r → ⊥
        none a (its_own m) = subst (λ (z : Own). In r z.reads) a m
        none a (by_dep k z oz names m) = subst (λ (u : Own). In names.0 u.snap.deps) a names.1
    here_e j y r t (m_sets n x z o op' q mv) own op via by = elim (got_set d.view.own n j z y (subst (λ (xs : List Own). slice_get xs j ≡ Some y) q own)) [
      | inl a ↦ moved n x y o op' r t by (subst (Moves d.view x) (sym a.1) mv) via
      | inr a ↦ stayed j y r t a.1 op via by
    ]

    pub counted_act : AllCounted (during s i e)
    counted_act n j u y r t there own op via by = elim (got_set s.nodes i n e.view u there) [
      | inl p ↦ subst (λ (k : ℕ). Counted (during s i e) k y t) (sym p.0)
          (here_e j y r t (own_move (at_place scene i) input w d e act) (subst (λ (z : View). Owns z j y) p.1 own) op (subst (λ (z : View). ReadsVia z y r) p.1 via) by)
      | inr p ↦ lift n y t (h n j u y r t (get_set_other s.nodes i n d.view p.0 ∙ p.1) own op via by)
    ]

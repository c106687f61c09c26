-- What a dependency depends on, those that depend on it depend on too, or it has committed.
use Rattle.std.proofs.Common.{List, Some, add-sub_cancel, ap, arith, false, inl, inr, refl, slice_get, subst, sym, ℕ, ◌+◌, ◌-◌, ◌∙◌, ◌≡◌, ◌⊎◌}
use Rattle.dependency_set.specs.Snapshots.{Snap}
use Rattle.spsi_laws.proofs.Pairs.SnapshotsGrow.{GainsAll, Grows}
use Rattle.spsi_laws.proofs.Pairs.CertifiedLast.{fates_on, lasts_act, left_names, looked}
use Rattle.spsi_laws.proofs.Pairs.ReadsMove.{Moves, OwnMove, m_begins, m_rests, m_sets, mv_grows, mv_resolve, mv_same, own_move}
use Rattle.str_model.proofs.Principle.SingleChanges.{Act, Where}
use Rattle.str_model.proofs.Changes.SnapshotsGain.{Names}
use Rattle.str_model.specs.Acts.{fresh}
use Rattle.str_model.specs.Owned.{Owns}
use Rattle.str_model.specs.Turns.{CommittedAt, DepTurn, dep_turn, left_by, own_fate}
use Rattle.str_model.specs.Views.{Doing, Own, View, is_decided, lc_of}
use Rattle.str_model.specs.declared.messages.Input.{Input}
use Rattle.str_scene.specs.Scenes.{Here}
use Rattle.str_model.proofs.OwnFacts.LocalOwners.{Depends, LocalOwner, WeakDep, same_own}
use Rattle.str_base.proofs.Lists.{got_push, got_set}
use Rattle.str_base.specs.Members.{In}

-- it is a dependency too, or it has committed
abbrev pub IsNested : View → Own → ℕ → Type 0
IsNested v x seq = Names seq x.snap.deps ⊎ ((fc : ℕ) × (own_fate (slice_get v.own (seq - 1)) ≡ CommittedAt fc))

abbrev pub AllNested : View → Type 0
AllNested v = (i k : ℕ) (x z : Own) (seq : ℕ) → Owns v i x → is_decided x.phase ≡ false → Owns v k z → Names (k + 1) x.snap.deps → Names seq z.snap.deps → IsNested v x seq

module _ (here : Here) (input : Input) (w : Where) (d e : Doing) (act : Act here input w d e) (base : Depends here d.view) (h : AllNested d.view) where
  up : (x : Own) (seq : ℕ) → IsNested d.view x seq → IsNested e.view x seq
  up x seq (inl n) = inl n
  up x seq (inr c) = inr (c.0, fates_on here input w d e act (seq - 1) c.0 c.1)

  -- a certified one has no dependency that it had not
  old_names : (k lc : ℕ) (o z : Own) (seq : ℕ) → Owns d.view k o → lc_of o.phase ≡ Some lc → Owns e.view k z → Names seq z.snap.deps → Names seq o.snap.deps
  old_names k lc o z seq oo l oz n =
      let r = lasts_act here input w d e act k lc o oo l in
      let same : r.y ≡ z = same_own e.view k k r.y z r.own oz refl in r.fewer seq (subst (λ (y : Own). Names seq y.snap.deps) (sym same) n)

  dep_names : (j k : ℕ) (x z : Own) (seq : ℕ) → Owns d.view j x → is_decided x.phase ≡ false → Names (k + 1) x.snap.deps → Owns e.view k z → Names seq z.snap.deps → (o : Own) × Owns d.view k o × Names seq o.snap.deps
  dep_names j k x z seq own op names oz n =
      let b : WeakDep d.view j x names.0 = base.deps j x names.0 own op names.1 in
      let place : b.place ≡ k = omega (arith, b.seq, names.2) in
      let oo : Owns d.view k b.owner = subst (λ (q : ℕ). Owns d.view q b.owner) place b.owns in
      (b.owner, oo, old_names k b.lc b.owner z seq oo b.is_lc oz n)

  stayed : (j k : ℕ) (x z : Own) (seq : ℕ) → Owns d.view j x → is_decided x.phase ≡ false → Owns e.view k z → Names (k + 1) x.snap.deps → Names seq z.snap.deps → IsNested e.view x seq
  stayed j k x z seq own op oz names n = let o = dep_names j k x z seq own op names oz n in up x seq (h j k x o.0 seq own op o.1 names o.2)

  module _ (n k : ℕ) (x y z : Own) (seq : ℕ) (own : Owns d.view n x) (op : is_decided x.phase ≡ false) (oz : Owns e.view k z) (nz : Names seq z.snap.deps) where
    nested_x : Names (k + 1) x.snap.deps → IsNested d.view x seq
    nested_x names = let o = dep_names n k x z seq own op names oz nz in h n k x o.0 seq own op o.1 names o.2

    looked_nested : (t : DepTurn) → dep_turn d.view.own x.snap ≡ t → y ≡ record x { snap = left_by t x.snap } → Names (k + 1) y.snap.deps → IsNested e.view y seq
    looked_nested t q eq names = by_case (nested_x (left_names d.view x.snap t q (k + 1) (subst (λ (p : Snap). Names (k + 1) p.deps) sn names)))
      where
        sn : y.snap ≡ left_by t x.snap
        sn = ap (λ (u : Own). u.snap) eq

        by_case : IsNested d.view x seq → IsNested e.view y seq
        by_case (inr c) = inr (c.0, fates_on here input w d e act (seq - 1) c.0 c.1)
        by_case (inl m) = elim ((looked d.view x.snap t q).each seq m) [
          | inl l ↦ inl (subst (λ (p : Snap). Names seq p.deps) (sym sn) l)
          | inr c ↦ inr (c.0, fates_on here input w d e act (seq - 1) c.0 c.1)
        ]

    grown_nested : Grows d.view x.snap y.snap → Names (k + 1) y.snap.deps → IsNested e.view y seq
    grown_nested g names = elim (g.gained names.0 names.1) [ inl j ↦ old (nested_x (names.0, j, names.2)) | inr ga ↦ gained ga ]
      where
        old : IsNested d.view x seq → IsNested e.view y seq
        old (inl m) = let q = g.kept m.0 m.1 in inl (q.0, q.1, q.2 ∙ m.2)
        old (inr c) = inr (c.0, fates_on here input w d e act (seq - 1) c.0 c.1)

        gained : GainsAll d.view x.snap.rs y.snap names.0 → IsNested e.view y seq
        gained ga = by_which ga.which
          where
            lo : LocalOwner here d.view ga.version
            lo = base.locals ga.version ga.is_in ga.kind

            same : lo.owner ≡ ga.owner
            same = same_own d.view lo.place (ga.version.tx.seq - 1) lo.owner ga.owner lo.owns ga.there (sym (ap (λ (b : ℕ). b - 1) lo.seq ∙ add-sub_cancel lo.place 1))

            its : Names seq lo.owner.snap.deps → IsNested e.view y seq
            its m = let q = ga.deps m.0 (subst (λ (u : Own). In m.0 u.snap.deps) same m.1) in inl (q.0, q.1, q.2 ∙ m.2)

            of_owner : IsNested d.view lo.owner seq → IsNested e.view y seq
            of_owner (inl m) = its m
            of_owner (inr c) = inr (c.0, fates_on here input w d e act (seq - 1) c.0 c.1)

            by_which : (names.0.seq ≡ ga.version.tx.seq) ⊎ In names.0 ga.owner.snap.deps → IsNested e.view y seq
            by_which (inl q) =
                let place : lo.place ≡ k = omega (arith, q, names.2, lo.seq) in
                its (old_names k ga.version.ts.0 lo.owner z seq (subst (λ (b : ℕ). Owns d.view b lo.owner) place lo.owns) lo.lc oz nz)
            by_which (inr j) =
                let nk : Names (k + 1) lo.owner.snap.deps = (names.0, subst (λ (u : Own). In names.0 u.snap.deps) (sym same) j, names.2) in
                let o = dep_names lo.place k lo.owner z seq lo.owns lo.open_ nk oz nz in of_owner (h lo.place k lo.owner o.0 seq lo.owns lo.open_ o.1 nk o.2)

    moved : Moves d.view x y → Names (k + 1) y.snap.deps → IsNested e.view y seq
    moved (mv_same sn rd f) names = by_case (nested_x (subst (λ (p : Snap). Names (k + 1) p.deps) sn names))
      where
        by_case : IsNested d.view x seq → IsNested e.view y seq
        by_case (inl m) = inl (subst (λ (p : Snap). Names seq p.deps) (sym sn) m)
        by_case (inr c) = inr (c.0, fates_on here input w d e act (seq - 1) c.0 c.1)
    moved (mv_resolve t q eq) names = looked_nested t q eq names
    moved (mv_grows none g hold ro) names = grown_nested g names

  by_move : OwnMove d.view e.view → AllNested e.view
  by_move (m_rests q) j k y z seq own op oz names nz = stayed j k y z seq (subst (λ (xs : List Own). slice_get xs j ≡ Some y) q own) op oz names nz
  by_move (m_begins place rs q) j k y z seq own op oz names nz = elim (got_push d.view.own j (fresh place rs) y (subst (λ (xs : List Own). slice_get xs j ≡ Some y) q own)) [
    | inl a ↦ absurd (subst (λ (u : Own). In names.0 u.snap.deps) a.1 names.1)
    | inr a ↦ stayed j k y z seq a op oz names nz
  ]
  by_move (m_sets n x u o op' q mv) j k y z seq own op oz names nz = elim (got_set d.view.own n j u y (subst (λ (xs : List Own). slice_get xs j ≡ Some y) q own)) [
    | inl a ↦ moved n k x y z seq o op' oz nz (subst (Moves d.view x) (sym a.1) mv) names
    | inr a ↦ stayed j k y z seq a.1 op oz names nz
  ]

  pub nested_act : AllNested e.view
  nested_act = by_move (own_move here input w d e act)

-- Around a Local version: what other versions of its key stand at its node.
use Rattle.std.proofs.Common.{List, Some, add-sub_cancel, ap, arith, false, inl, inr, refl, slice_get, subst, sym, ℕ, ◌+◌, ◌-◌, ◌∙◌, ◌≡◌, ◌≢◌, ◌≤◌, ◌⊎◌}
use Rattle.dependency_set.specs.declared.names.Dep.{Dep}
use Rattle.str_base.specs.declared.names.Kind.TheVariants.{Final, Local as LocalKind, Pre}
use Rattle.str_base.specs.declared.names.Version.{Version}
use Rattle.str_model.specs.Owned.{Owns}
use Rattle.str_model.specs.Turns.{CommittedAt, own_fate}
use Rattle.str_model.specs.Views.{Own, View, is_decided, lc_of}
use Rattle.str_scene.specs.Scenes.{Here}
use Rattle.str_model.proofs.Changes.SnapshotsGain.{Names, Settles}
use Rattle.str_model.proofs.OwnFacts.LocalOwners.{Depends, LocalOwner, open-fate, same_own}
use Rattle.str_model.specs.Turns
use Rattle.str_base.specs.Members.{In}

-- At a moment: T (the i-th own transaction, x) is undecided and certified at lc with a Local version of a key, and q is a version of that key
-- of another transaction. Then q is not Pre. If it is Final, then at or below T's snapshot, or it is of an own dependency of T that was decided in this
-- step, so that T's turn is to come. If it is Local, one of the two is a dependency of the other and lies at or below its snapshot.
-- Why: a read or a certification of T that meets q must find it final for T or in T's dependencies; and a Pre version must never come beside a Local one.
pub data Around (here : Here) (v : View) (i : ℕ) (x : Own) (lc : ℕ) (q : Version) : Type 0 where
  final_below : q.kind ≡ Final → q.ts.0 ≤ x.snap.rs → Around here v i x lc q
  final_late : q.kind ≡ Final → q.tx.node.0 ≡ here.node.0 → Names q.tx.seq x.snap.deps → own_fate (slice_get v.own (q.tx.seq - 1)) ≡ CommittedAt q.ts.0 → Around here v i x lc q
  local_below : q.kind ≡ LocalKind → q.ts.0 ≤ x.snap.rs → Names q.tx.seq x.snap.deps → Around here v i x lc q
  local_above : (j : ℕ) (y : Own) → q.kind ≡ LocalKind → q.tx.seq ≡ j + 1 → Owns v j y → lc ≤ y.snap.rs → Names (i + 1) y.snap.deps → Around here v i x lc q

-- After each event: the same without a dependency that was decided and is still listed.
pub data AroundAfter (here : Here) (v : View) (i : ℕ) (x : Own) (lc : ℕ) (q : Version) : Type 0 where
  after_final : q.kind ≡ Final → q.ts.0 ≤ x.snap.rs → AroundAfter here v i x lc q
  after_below : q.kind ≡ LocalKind → q.ts.0 ≤ x.snap.rs → Names q.tx.seq x.snap.deps → AroundAfter here v i x lc q
  after_above : (j : ℕ) (y : Own) → q.kind ≡ LocalKind → q.tx.seq ≡ j + 1 → Owns v j y → lc ≤ y.snap.rs → Names (i + 1) y.snap.deps → AroundAfter here v i x lc q

-- A Final version is of an own transaction that committed at its timestamp, or its pair is in the done list. Why: a version that is
-- decided here was not final before, so that Final versions never change their timestamp.
pub data FinalKnown (here : Here) (v : View) (q : Version) : Type 0 where
  own_final : q.tx.node.0 ≡ here.node.0 → own_fate (slice_get v.own (q.tx.seq - 1)) ≡ CommittedAt q.ts.0 → FinalKnown here v q
  far_final : q.tx.node.0 ≢ here.node.0 → In (q.tx, q.part) v.done → FinalKnown here v q

-- what is known around each Local version
abbrev pub EachAround : Here → View → (ℕ → Own → ℕ → Version → Type 0) → Type 0
EachAround here v P =
    (i : ℕ) (x : Own) (p q : Version) → Owns v i x → In p v.versions → p.kind ≡ LocalKind → p.tx.seq ≡ i + 1 → In q v.versions → q.key ≡ p.key → q.tx ≢ p.tx
    → P i x p.ts.0 q

-- A Pre and a Local version of one key do not stand together, not even of one transaction. Why: the transaction of a Pre version that is
-- beside a Local one could commit between the local commit timestamp and the final one.
abbrev pub PresApart : View → Type 0
PresApart v = (p q : Version) → In p v.versions → p.kind ≡ LocalKind → In q v.versions → q.kind ≡ Pre → q.key ≡ p.key → ⊥

-- at each moment
pub record Stand (here : Here) (v : View) : Type 0 where
  pub base : Depends here v
  pub finals : (q : Version) → In q v.versions → q.kind ≡ Final → FinalKnown here v q
  pub around : EachAround here v (Around here v)
  pub apart : PresApart v

-- the owner of a Local version by its number
pub owner_at : (here : Here) (v : View) (p : Version) (o : LocalOwner here v p) (i : ℕ) (x : Own) → Owns v i x → p.tx.seq ≡ i + 1
    → (is_decided x.phase ≡ false) × (lc_of x.phase ≡ Some p.ts.0)
owner_at here v p o i x own s =
    let same : o.owner ≡ x = same_own v o.place i o.owner x o.owns own (omega (arith, s, o.seq)) in
    (ap (λ (z : Own). is_decided z.phase) (sym same) ∙ o.open_, ap (λ (z : Own). lc_of z.phase) (sym same) ∙ o.lc)

-- the owner of a Local version has no final timestamp
pub owner_open : (here : Here) (v : View) (p : Version) (o : LocalOwner here v p) (seq fc : ℕ) → p.tx.seq ≡ seq → own_fate (slice_get v.own (seq - 1)) ≡ CommittedAt fc → ⊥
owner_open here v p o seq fc s f =
    let at : slice_get v.own (seq - 1) ≡ Some o.owner = ap (λ m. slice_get v.own (m - 1)) (sym s ∙ o.seq) ∙ (ap (λ m. slice_get v.own m) (add-sub_cancel o.place 1) ∙ o.owns) in
    let t : own_fate (slice_get v.own (seq - 1)) ≡ Turns.Open = ap own_fate at ∙ open-fate o.owner.phase o.open_ in
    cc (sym f ∙ t)

-- ---- what a change leaves of own transactions

-- an undecided own transaction keeps its timestamp, and each dependency that it loses is settled; what has committed stays so
pub record Carried (d e : View) : Type 0 where
  pub each : (i : ℕ) (x y : Own) → Owns d i x → Owns e i y → is_decided x.phase ≡ false → is_decided y.phase ≡ false
      → (y.snap.rs ≡ x.snap.rs) × ((dep : Dep) → In dep x.snap.deps → Names dep.seq y.snap.deps ⊎ Settles d x.snap.rs dep)
  pub fates : (k fc : ℕ) → own_fate (slice_get d.own k) ≡ CommittedAt fc → own_fate (slice_get e.own k) ≡ CommittedAt fc

pub named_more : (d : View) (rs s : ℕ) (old new : List Dep) → ((dep : Dep) → In dep old → Names dep.seq new ⊎ Settles d rs dep) → Names s old
    → Names s new ⊎ ((fc : ℕ) × (own_fate (slice_get d.own (s - 1)) ≡ CommittedAt fc) × (fc ≤ rs))
named_more d rs s old new f n =
    elim (f n.0 n.1) [
      | inl m ↦ inl (m.0, m.1, m.2 ∙ n.2)
      | inr t ↦ inr (t.0, subst (λ k. own_fate (slice_get d.own (k - 1)) ≡ CommittedAt t.0) n.2 t.1, t.2)
    ]

-- what is around stays around, where the version stays
pub carry : (here : Here) (d e : View) (c : Carried d e) (i lc : ℕ) (x y : Own) (q : Version) → Owns d i x → Owns e i y → is_decided x.phase ≡ false → is_decided y.phase ≡ false
    → (q.kind ≡ LocalKind → LocalOwner here d q) → (q.kind ≡ LocalKind → LocalOwner here e q) → Around here d i x lc q → Around here e i y lc q
carry here d e c i lc x y q own own' op op' lq lq' (final_below k le) = final_below k (omega (arith, le, (c.each i x y own own' op op').0))
carry here d e c i lc x y q own own' op op' lq lq' (final_late k n m f) =
    let r = c.each i x y own own' op op' in
    elim (named_more d x.snap.rs q.tx.seq x.snap.deps y.snap.deps r.1 m) [
      | inl m' ↦ final_late k n m' (c.fates (q.tx.seq - 1) q.ts.0 f)
      | inr t ↦ final_below k (let g : CommittedAt t.0 ≡ CommittedAt q.ts.0 = sym t.1 ∙ f in let same : t.0 ≡ q.ts.0 = cc g in omega (arith, t.2, same, r.0))
    ]
carry here d e c i lc x y q own own' op op' lq lq' (local_below k le m) =
    let r = c.each i x y own own' op op' in
    elim (named_more d x.snap.rs q.tx.seq x.snap.deps y.snap.deps r.1 m) [
      | inl m' ↦ local_below k (omega (arith, le, r.0)) m'
      | inr t ↦ absurd (owner_open here d q (lq k) q.tx.seq t.0 refl t.1)
    ]
carry here d e c i lc x y q own own' op op' lq lq' (local_above j z k s oz le m) =
    let o' = lq' k in
    let oz' : Owns e j o'.owner = subst (λ n. Owns e n o'.owner) (omega (arith, s, o'.seq)) o'.owns in
    let r = c.each j z o'.owner oz oz' (owner_at here d q (lq k) j z oz s).0 o'.open_ in
    elim (named_more d z.snap.rs (i + 1) z.snap.deps o'.owner.snap.deps r.1 m) [
      | inl m' ↦ local_above j o'.owner k s oz' (omega (arith, le, r.0)) m'
      | inr t ↦ absurd (let g : own_fate (slice_get d.own (i + 1 - 1)) ≡ Turns.Open = ap (λ n. own_fate (slice_get d.own n)) (add-sub_cancel i 1) ∙ (ap own_fate own ∙ open-fate x.phase op) in cc (sym t.1 ∙ g))
    ]

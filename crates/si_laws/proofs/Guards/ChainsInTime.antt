-- Versions of a key stand in order of their timestamps, at every moment; so the last one at or below a timestamp is the greatest.
use Rattle.str_model.proofs.Changes.VersionChanges.{VersionStep, v_decided, v_finals, v_locals, v_pres, v_rests, v_without, version_step}
use Rattle.str_model.proofs.Principle.SingleChanges.{Act, Where}
use Rattle.str_model.proofs.Changes.SnapshotsGain.{in_last}
use Rattle.std.proofs.Common.{Bool, List, None, Option, Some, [], arith, eq-eqb, eqb-true, false, filter, if◌then◌else◌, inl, inr, le-leb, leb-true, lt-ltb, ltb-false, ltb-true, map, nat_le, nat_lt, not, refl, subst, sym, true, ℕ, ◌&&◌, ◌<◌, ◌==◌, ◌||◌, ◌∙◌, ◌∷◌, ◌≡◌, ◌≤◌, ◌⊎◌, ap}
use Rattle.std.specs.List.{last_or}
use Rattle.str_base.specs.Versions.{insert_all, insert_version, is_before, is_pre, is_undecided, last_pre, last_undecided, of_pair, of_tx, same_key, settled, tx_before, visible, without}
use Rattle.str_base.specs.declared.names.KeyId.{KeyId}
use Rattle.str_base.specs.declared.names.Version.{Version}
use Rattle.str_model.specs.Acts.{is_hosted_of, local_version, pre_version}
use Rattle.str_model.specs.Views.{Doing, name_of}
use Rattle.str_model.specs.declared.messages.Input.{Input}
use Rattle.str_scene.specs.Scenes.{Here}
use Rattle.std.proofs.lemmas.Bool.{and_from, or_cases, or_parts}
use Rattle.str_base.proofs.Tests.{and_true_left, and_true_right}
use Rattle.str_base.proofs.Members.{filter_in, in_filter, in_insert}
use Rattle.str_base.specs.Members.{In}

-- the key of the one is less, or it is the same and the timestamp is not greater
abbrev pub NotAfter : Version → Version → Type 0
NotAfter u v = (u.key.0 < v.key.0) ⊎ ((u.key.0 ≡ v.key.0) × (u.ts.0 ≤ v.ts.0))

-- each is not after those that follow it
abbrev pub InTime : List Version → Type 0
InTime [] = Unit {0}
InTime (v ∷ vs) = ((u : Version) → In u vs → NotAfter v u) × InTime vs

after_trans : (a b c : Version) → NotAfter a b → NotAfter b c → NotAfter a c
after_trans a b c (inl p) (inl q) = inl (omega (arith, p, q))
after_trans a b c (inl p) (inr q) = inl (omega (arith, p, q.0))
after_trans a b c (inr p) (inl q) = inl (omega (arith, p.0, q))
after_trans a b c (inr p) (inr q) = inr (p.0 ∙ q.0, omega (arith, p.1, q.1))

before_not_after : (u v : Version) → is_before u v ≡ true → NotAfter u v
before_not_after u v e = elim (or_cases (nat_lt u.key.0 v.key.0) _ e) [
  | inl p ↦ inl (ltb-true u.key.0 v.key.0 p)
  | inr p ↦ (let k = eqb-true u.key.0 v.key.0 (and_true_left (same_key u.key v.key) _ p) in
      inr (
        k,
        elim (or_cases (nat_lt u.ts.0 v.ts.0) _ (and_true_right (same_key u.key v.key) _ p)) [
          | inl q ↦ (let l = ltb-true u.ts.0 v.ts.0 q in omega (arith, l))
          | inr q ↦ (let l = eqb-true u.ts.0 v.ts.0 (and_true_left (u.ts.0 == v.ts.0) (tx_before u.tx v.tx) q) in omega (arith, l))
        ],
      ))
]

not_before_after : (u v : Version) → is_before u v ≡ false → NotAfter v u
not_before_after u v e = by_key (same_key u.key v.key) refl n.1
  where
    n : (nat_lt u.key.0 v.key.0 ≡ false) × ((same_key u.key v.key && (nat_lt u.ts.0 v.ts.0 || ((u.ts.0 == v.ts.0) && tx_before u.tx v.tx))) ≡ false)
    n = or_parts (nat_lt u.key.0 v.key.0) _ e

    le : v.key.0 ≤ u.key.0
    le = ltb-false u.key.0 v.key.0 n.0

    other : same_key u.key v.key ≡ false → v.key.0 < u.key.0
    other q = by_order (nat_lt v.key.0 u.key.0) refl
      where
        by_order : (b : Bool) → nat_lt v.key.0 u.key.0 ≡ b → v.key.0 < u.key.0
        by_order true p = ltb-true v.key.0 u.key.0 p
        by_order false p = let l = ltb-false v.key.0 u.key.0 p in let s : same_key u.key v.key ≡ true = eq-eqb u.key.0 v.key.0 (omega (arith, l, le)) in absurd (cc (s, q))

    by_key : (b : Bool) → same_key u.key v.key ≡ b → (b && (nat_lt u.ts.0 v.ts.0 || ((u.ts.0 == v.ts.0) && tx_before u.tx v.tx))) ≡ false → NotAfter v u
    by_key true q f = inr (sym (eqb-true u.key.0 v.key.0 q), ltb-false u.ts.0 v.ts.0 (or_parts (nat_lt u.ts.0 v.ts.0) _ f).0)
    by_key false q f = inl (other q)

-- ---- what keeps the order

insert_in_time : (v : Version) (vs : List Version) → InTime vs → InTime (insert_version v vs)
insert_in_time v [] h = ((λ u m. absurd m), tt)
insert_in_time v (w ∷ ws) h = by_test (is_before v w) refl (insert_in_time v ws h.1)
  where
    by_test : (b : Bool) → is_before v w ≡ b → InTime (insert_version v ws) → InTime (if b then v ∷ w ∷ ws else w ∷ insert_version v ws)
    by_test true e rec = (
      (λ u m. elim m as (λ z. NotAfter v u) [
        | inl q ↦ subst (NotAfter v) q (before_not_after v w e)
        | inr j ↦ after_trans v w u (before_not_after v w e) (h.0 u j)
      ]),
      h,
    )
    by_test false e rec = ((λ u m. elim (in_insert v ws u m) [ inl q ↦ subst (NotAfter w) q (not_before_after v w e) | inr j ↦ h.0 u j ]), rec)

pub insert_all_in_time : (us vs : List Version) → InTime vs → InTime (insert_all us vs)
insert_all_in_time [] vs h = h
insert_all_in_time (u ∷ us) vs h = insert_all_in_time us (insert_version u vs) (insert_in_time u vs h)

filter_in_time : (test : Version → Bool) (vs : List Version) → InTime vs → InTime (filter test vs)
filter_in_time test [] h = tt
filter_in_time test (v ∷ vs) h = by_test (test v) (filter_in_time test vs h.1)
  where
    by_test : (b : Bool) → InTime (filter test vs) → InTime (if b then v ∷ filter test vs else filter test vs)
    by_test true rec = ((λ u m. h.0 u (in_filter test vs u m).0), rec)
    by_test false rec = rec

pub in_time-act : (here : Here) (input : Input) (w : Where) (d e : Doing) → Act here input w d e → InTime d.view.versions → InTime e.view.versions
in_time-act here input w d e a h = by_step (version_step here input w d e a)
  where
    by_step : VersionStep here input d e → InTime e.view.versions
    by_step (v_rests q) = subst InTime (sym q) h
    by_step (v_locals i lc x q) = subst InTime (sym q) (insert_all_in_time (map (local_version here i lc) x.writes) d.view.versions h)
    by_step (v_pres b ts p q) = subst InTime (sym q) (insert_all_in_time (map (pre_version b ts) b.writes) d.view.versions h)
    by_step (v_without test q) = subst InTime (sym q) (filter_in_time (λ v. not (test v)) d.view.versions h)
    by_step (v_decided i fc q) =
        subst InTime (sym q)
        (insert_all_in_time (map (settled fc) (filter (is_hosted_of here (name_of here i)) d.view.versions)) (without (of_tx (name_of here i)) d.view.versions)
        (filter_in_time (λ v. not (of_tx (name_of here i) v)) d.view.versions h))
    by_step (v_finals tx p fc q) =
        subst InTime (sym q)
        (insert_all_in_time (map (settled fc) (filter (of_pair tx p) d.view.versions)) (without (of_pair tx p) d.view.versions) (filter_in_time (λ v. not (of_pair tx p v)) d.view.versions h))

-- ---- the last one

some_last : (zs : List Version) (z : Version) → last_or (Some z) zs ≡ None → ⊥
some_last [] z e = cc e
some_last (y ∷ zs) z e = some_last zs y e

none_in : (xs : List Version) (x : Version) → last_or None xs ≡ None → In x xs → ⊥
none_in [] x e h = h
none_in (y ∷ xs) x e h = some_last xs y e

none_passes : (test : Version → Bool) (vs : List Version) (x : Version) → last_or None (filter test vs) ≡ None → In x vs → test x ≡ true → ⊥
none_passes test vs x e h t = none_in (filter test vs) x e (filter_in test vs x h t)

last_greatest : (o : Option Version) (xs : List Version) (v x : Version) → InTime xs → last_or o xs ≡ Some v → In x xs → x.key.0 ≡ v.key.0 → x.ts.0 ≤ v.ts.0
last_greatest o [] v x h e m k = absurd m
last_greatest o (y ∷ ys) v x h e (inr m) k = last_greatest (Some y) ys v x h.1 e m k
last_greatest o (y ∷ ys) v x h e (inl q) k = elim (in_last (Some y) ys v e) [
  | inl r ↦ (let s : y ≡ v = cc r in omega (arith, ap (λ (z : Version). z.ts.0) q, ap (λ (z : Version). z.ts.0) s))
  | inr m ↦ (elim (h.0 v m) [
    | inl l ↦ absurd (omega (arith, l, k, ap (λ (z : Version). z.key.0) q))
    | inr l ↦ omega (arith, l.1, ap (λ (z : Version). z.ts.0) q)
  ])
]

-- where no version of the key is visible, each is above
pub none_visible : (vs : List Version) (k : KeyId) (r : ℕ) → visible vs k r ≡ None → (q : Version) → In q vs → q.key ≡ k → r < q.ts.0
none_visible vs k r e q m key = by_order (nat_le q.ts.0 r) refl
  where
    by_order : (b : Bool) → nat_le q.ts.0 r ≡ b → r < q.ts.0
    by_order true p = absurd (none_passes (λ (x : Version). same_key x.key k && nat_le x.ts.0 r) vs q e m (and_from (same_key q.key k) _ (eq-eqb q.key.0 k.0 (ap (λ (z : KeyId). z.0) key)) p))
    by_order false p = Rattle.std.proofs.Common.leb-false q.ts.0 r p

-- the visible one is of the key, at or below, and each other is above or not after it
pub record IsVisible (vs : List Version) (k : KeyId) (r : ℕ) (v : Version) : Type 0 where
  pub is_in : In v vs
  pub key : v.key ≡ k
  pub below : v.ts.0 ≤ r
  pub greatest : (q : Version) → In q vs → q.key ≡ k → (r < q.ts.0) ⊎ (q.ts.0 ≤ v.ts.0)

pub visible_one : (vs : List Version) (k : KeyId) (r : ℕ) (v : Version) → InTime vs → visible vs k r ≡ Some v → IsVisible vs k r v
visible_one vs k r v h e = elim (in_last None (filter test vs) v e) [ inl q ↦ absurd (cc q) | inr m ↦ is m ]
  where
    test : Version → Bool
    test x = same_key x.key k && nat_le x.ts.0 r

    is : In v (filter test vs) → IsVisible vs k r v
    is m =
        let f = in_filter test vs v m in
        let kv = eqb-true v.key.0 k.0 (and_true_left (same_key v.key k) _ f.1) in
        record {
          is_in = f.0;
          key = λ j. record { 0 = kv j };
          below = leb-true v.ts.0 r (and_true_right (same_key v.key k) _ f.1);
          greatest = λ q n key. by_order q n key (nat_le q.ts.0 r) refl;
        }
      where
        by_order : (q : Version) → In q vs → q.key ≡ k → (b : Bool) → nat_le q.ts.0 r ≡ b → (r < q.ts.0) ⊎ (q.ts.0 ≤ v.ts.0)
        by_order q n key true p =
            let kq = ap (λ (z : KeyId). z.0) key in
            let j = filter_in test vs q n (and_from (same_key q.key k) _ (eq-eqb q.key.0 k.0 kq) p) in
            let kv = eqb-true v.key.0 k.0 (and_true_left (same_key v.key k) _ (in_filter test vs v m).1) in
            inr (last_greatest None (filter test vs) v q (filter_in_time test vs h) e j (kq ∙ sym kv))
        by_order q n key false p = inl (Rattle.std.proofs.Common.leb-false q.ts.0 r p)

-- where no Pre version of the key is at or below, each is above or is none
pub none_pre : (vs : List Version) (k : KeyId) (r : ℕ) → last_pre vs k r ≡ None → (q : Version) → In q vs → q.key ≡ k → (r < q.ts.0) ⊎ (is_pre q.kind ≡ false)
none_pre vs k r e q m key = by_order (nat_le q.ts.0 r) refl (is_pre q.kind) refl
  where
    by_order : (b : Bool) → nat_le q.ts.0 r ≡ b → (c : Bool) → is_pre q.kind ≡ c → (r < q.ts.0) ⊎ (is_pre q.kind ≡ false)
    by_order true p true s = absurd (none_passes (λ (x : Version). same_key x.key k && (nat_le x.ts.0 r && is_pre x.kind)) vs q e m
        (and_from (same_key q.key k) _ (eq-eqb q.key.0 k.0 (ap (λ (z : KeyId). z.0) key)) (and_from (nat_le q.ts.0 r) _ p s)))
    by_order true p false s = inr s
    by_order false p c s = inl (Rattle.std.proofs.Common.leb-false q.ts.0 r p)

-- where no undecided version of the key is at or below, each is above or decided
pub none_undecided : (vs : List Version) (k : KeyId) (r : ℕ) → last_undecided vs k r ≡ None → (q : Version) → In q vs → q.key ≡ k → (r < q.ts.0) ⊎ (is_undecided q.kind ≡ false)
none_undecided vs k r e q m key = by_order (nat_le q.ts.0 r) refl (is_undecided q.kind) refl
  where
    by_order : (b : Bool) → nat_le q.ts.0 r ≡ b → (c : Bool) → is_undecided q.kind ≡ c → (r < q.ts.0) ⊎ (is_undecided q.kind ≡ false)
    by_order true p true s = absurd (none_passes (λ (x : Version). same_key x.key k && (nat_le x.ts.0 r && is_undecided x.kind)) vs q e m
        (and_from (same_key q.key k) _ (eq-eqb q.key.0 k.0 (ap (λ (z : KeyId). z.0) key)) (and_from (nat_le q.ts.0 r) _ p s)))
    by_order true p false s = inr s
    by_order false p c s = inl (Rattle.std.proofs.Common.leb-false q.ts.0 r p)

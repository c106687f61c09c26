-- What is told of the certified undecided transactions, after one change of the list.
use Rattle.std.proofs.Common.{Bool, List, Some, [], ap, arith, drop, eq-eqb, false, get_or, if◌then◌else◌, length, lt-ltb, map, nat_lt, not, refl, slice_get, slice_set, suc, sym, take, true, zero, ℕ, ◌++◌, ◌+◌, ◌<◌, ◌==◌, ◌∙◌, ◌∷◌, ◌≡◌, ◌≤◌}
use Rattle.std.proofs.lemmas.Bool.{le-ltb, ne_eqb}
use Rattle.std.proofs.lemmas.Option.{slice_get_read}
use Rattle.std.specs.List.{insert, position_or_len}
use Rattle.dependency_set.specs.declared.snaps.OwnSnap.{OwnSnap}
use Rattle.dependency_set.specs.Snapshots.{Snap}
use Rattle.snapshot_read.specs.Shown.{told_from}
use Rattle.str_model.specs.Views.{Own}
use Rattle.node_parts.specs.Owning.{is_told, told_again, told_also, told_no_more}

-- the head of what is told from a place on, where it is told of
abbrev with_head : Bool → ℕ → Snap → List OwnSnap → List OwnSnap
with_head b n snap rest = if b then record { seq = n + 1; snap = snap } ∷ rest else rest

-- ---- as before

-- one that is told of as before
pub told_same : (n : ℕ) (xs : List Own) (i : ℕ) (x y : Own) → slice_get xs i ≡ Some x → is_told y ≡ is_told x → (is_told x ≡ true → y.snap ≡ x.snap)
    → told_from n (slice_set xs i y) ≡ told_from n xs
told_same n [] i x y e d s = refl
told_same n (z ∷ xs) zero x y e d s =
    let is : z ≡ x = cc e in
    ap (λ b. with_head b n y.snap (told_from (n + 1) xs)) d ∙ (by_test (is_told x) s ∙ ap (λ (z : Own). with_head (is_told z) n z.snap (told_from (n + 1) xs)) (sym is))
  where
    by_test : (b : Bool) → (b ≡ true → y.snap ≡ x.snap) → with_head b n y.snap (told_from (n + 1) xs) ≡ with_head b n x.snap (told_from (n + 1) xs)
    by_test true s = ap (λ (t : Snap). record { seq = n + 1; snap = t } ∷ told_from (n + 1) xs) (s refl)
    by_test false s = refl
told_same n (z ∷ xs) (suc i) x y e d s = ap (λ l. with_head (is_told z) n z.snap l) (told_same (n + 1) xs i x y e d s)

-- one more of which is not told
pub told_push : (n : ℕ) (xs : List Own) (y : Own) → is_told y ≡ false → told_from n (xs ++ y ∷ []) ≡ told_from n xs
told_push n [] y t = ap (λ b. with_head b n y.snap []) t
told_push n (x ∷ xs) y t = ap (λ l. with_head (is_told x) n x.snap l) (told_push (n + 1) xs y t)

-- ---- one more is told of

-- one that has a lesser number than all others comes first
also_first : (q n : ℕ) (s : Snap) (xs : List Own) → q ≤ n → told_also (record { seq = q; snap = s }) (told_from n xs) ≡ record { seq = q; snap = s } ∷ told_from n xs
also_first q n s [] l = refl
also_first q n s (x ∷ xs) l = by_test (is_told x) (also_first q (n + 1) s xs (omega (arith, l)))
  where
    by_test : (b : Bool) → told_also (record { seq = q; snap = s }) (told_from (n + 1) xs) ≡ record { seq = q; snap = s } ∷ told_from (n + 1) xs
        → told_also (record { seq = q; snap = s }) (with_head b n x.snap (told_from (n + 1) xs)) ≡ record { seq = q; snap = s } ∷ with_head b n x.snap (told_from (n + 1) xs)
    by_test true r =
        ap (λ b. if b then record { seq = q; snap = s } ∷ record { seq = n + 1; snap = x.snap } ∷ told_from (n + 1) xs
        else record { seq = n + 1; snap = x.snap } ∷ told_also (record { seq = q; snap = s }) (told_from (n + 1) xs)) (lt-ltb q (n + 1) (omega (arith, l)))
    by_test false r = r

-- one that was not told of is told of
pub told_more : (n q : ℕ) (xs : List Own) (i : ℕ) (x y : Own) → q ≡ n + i + 1 → slice_get xs i ≡ Some x → is_told x ≡ false → is_told y ≡ true
    → told_from n (slice_set xs i y) ≡ told_also (record { seq = q; snap = y.snap }) (told_from n xs)
told_more n q [] i x y p e f t = absurd (cc e)
told_more n q (z ∷ xs) zero x y p e f t =
    let is : z ≡ x = cc e in
    ap (λ b. with_head b n y.snap (told_from (n + 1) xs)) t
    ∙ (ap (λ m. record { seq = m; snap = y.snap } ∷ told_from (n + 1) xs) (omega (arith, p))
    ∙ (sym (also_first q (n + 1) y.snap xs (omega (arith, p)))
    ∙ ap (λ b. told_also (record { seq = q; snap = y.snap }) (with_head b n z.snap (told_from (n + 1) xs))) (sym (ap is_told is ∙ f))))
told_more n q (z ∷ xs) (suc i) x y p e f t = by_test (is_told z) (told_more (n + 1) q xs i x y (omega (arith, p)) e f t)
  where
    by_test : (b : Bool) → told_from (n + 1) (slice_set xs i y) ≡ told_also (record { seq = q; snap = y.snap }) (told_from (n + 1) xs)
        → with_head b n z.snap (told_from (n + 1) (slice_set xs i y)) ≡ told_also (record { seq = q; snap = y.snap }) (with_head b n z.snap (told_from (n + 1) xs))
    by_test true r =
        ap (λ l. record { seq = n + 1; snap = z.snap } ∷ l) r
        ∙ sym (ap (λ b. if b then record { seq = q; snap = y.snap } ∷ record { seq = n + 1; snap = z.snap } ∷ told_from (n + 1) xs
        else record { seq = n + 1; snap = z.snap } ∷ told_also (record { seq = q; snap = y.snap }) (told_from (n + 1) xs)) (le-ltb q (n + 1) (omega (arith, p))))
    by_test false r = r

-- ---- another snapshot is told

-- one with the snapshot, where it has the number
abbrev pub again : ℕ → Snap → OwnSnap → OwnSnap
again q s y = if y.seq == q then record y { snap = s } else y

-- of a number that all others pass nothing is told
again_none : (q n : ℕ) (s : Snap) (xs : List Own) → q ≤ n → told_again q s (told_from n xs) ≡ told_from n xs
again_none q n s [] l = refl
again_none q n s (x ∷ xs) l = by_test (is_told x) (again_none q (n + 1) s xs (omega (arith, l)))
  where
    by_test : (b : Bool) → told_again q s (told_from (n + 1) xs) ≡ told_from (n + 1) xs
        → told_again q s (with_head b n x.snap (told_from (n + 1) xs)) ≡ with_head b n x.snap (told_from (n + 1) xs)
    by_test true r =
        ap (λ b. (if b then record { seq = n + 1; snap = s } else record { seq = n + 1; snap = x.snap }) ∷ told_again q s (told_from (n + 1) xs)) (ne_eqb (n + 1) q (λ e. omega (arith, l, e)))
        ∙ ap (λ l. record { seq = n + 1; snap = x.snap } ∷ l) r
    by_test false r = r

-- one that is told of as before has another snapshot
pub told_anew : (n q : ℕ) (xs : List Own) (i : ℕ) (x y : Own) → q ≡ n + i + 1 → slice_get xs i ≡ Some x → is_told y ≡ is_told x
    → told_from n (slice_set xs i y) ≡ told_again q y.snap (told_from n xs)
told_anew n q [] i x y p e t = refl
told_anew n q (z ∷ xs) zero x y p e t =
    let is : z ≡ x = cc e in
    ap (λ b. with_head b n y.snap (told_from (n + 1) xs)) (t ∙ ap is_told (sym is)) ∙ by_test (is_told z) (again_none q (n + 1) y.snap xs (omega (arith, p)))
  where
    by_test : (b : Bool) → told_again q y.snap (told_from (n + 1) xs) ≡ told_from (n + 1) xs
        → with_head b n y.snap (told_from (n + 1) xs) ≡ told_again q y.snap (with_head b n z.snap (told_from (n + 1) xs))
    by_test true r =
        sym (ap (λ b. (if b then record { seq = n + 1; snap = y.snap } else record { seq = n + 1; snap = z.snap }) ∷ told_again q y.snap (told_from (n + 1) xs)) (eq-eqb (n + 1) q (omega (arith, p)))
        ∙ ap (λ l. record { seq = n + 1; snap = y.snap } ∷ l) r)
    by_test false r = sym r
told_anew n q (z ∷ xs) (suc i) x y p e t = by_test (is_told z) (told_anew (n + 1) q xs i x y (omega (arith, p)) e t)
  where
    by_test : (b : Bool) → told_from (n + 1) (slice_set xs i y) ≡ told_again q y.snap (told_from (n + 1) xs)
        → with_head b n z.snap (told_from (n + 1) (slice_set xs i y)) ≡ told_again q y.snap (with_head b n z.snap (told_from (n + 1) xs))
    by_test true r =
        ap (λ l. record { seq = n + 1; snap = z.snap } ∷ l) r
        ∙ sym (ap (λ b. (if b then record { seq = n + 1; snap = y.snap } else record { seq = n + 1; snap = z.snap }) ∷ told_again q y.snap (told_from (n + 1) xs)) (ne_eqb (n + 1) q (λ e. omega (arith, p, e))))
    by_test false r = r

-- ---- one is not told of any more

-- of a number that all others pass nothing is left out
no_more_none : (q n : ℕ) (xs : List Own) → q ≤ n → told_no_more q (told_from n xs) ≡ told_from n xs
no_more_none q n [] l = refl
no_more_none q n (x ∷ xs) l = by_test (is_told x) (no_more_none q (n + 1) xs (omega (arith, l)))
  where
    by_test : (b : Bool) → told_no_more q (told_from (n + 1) xs) ≡ told_from (n + 1) xs
        → told_no_more q (with_head b n x.snap (told_from (n + 1) xs)) ≡ with_head b n x.snap (told_from (n + 1) xs)
    by_test true r =
        ap (λ b. with_head (not b) n x.snap (told_no_more q (told_from (n + 1) xs))) (ne_eqb (n + 1) q (λ e. omega (arith, l, e)))
        ∙ ap (λ l. record { seq = n + 1; snap = x.snap } ∷ l) r
    by_test false r = r

-- one is not told of any more
pub told_less : (n q : ℕ) (xs : List Own) (i : ℕ) (x y : Own) → q ≡ n + i + 1 → slice_get xs i ≡ Some x → is_told y ≡ false
    → told_from n (slice_set xs i y) ≡ told_no_more q (told_from n xs)
told_less n q [] i x y p e t = absurd (cc e)
told_less n q (z ∷ xs) zero x y p e t =
    ap (λ b. with_head b n y.snap (told_from (n + 1) xs)) t ∙ by_test (is_told z) (no_more_none q (n + 1) xs (omega (arith, p)))
  where
    by_test : (b : Bool) → told_no_more q (told_from (n + 1) xs) ≡ told_from (n + 1) xs
        → told_from (n + 1) xs ≡ told_no_more q (with_head b n z.snap (told_from (n + 1) xs))
    by_test true r = sym (ap (λ b. with_head (not b) n z.snap (told_no_more q (told_from (n + 1) xs))) (eq-eqb (n + 1) q (omega (arith, p))) ∙ r)
    by_test false r = sym r
told_less n q (z ∷ xs) (suc i) x y p e t = by_test (is_told z) (told_less (n + 1) q xs i x y (omega (arith, p)) e t)
  where
    by_test : (b : Bool) → told_from (n + 1) (slice_set xs i y) ≡ told_no_more q (told_from (n + 1) xs)
        → with_head b n z.snap (told_from (n + 1) (slice_set xs i y)) ≡ told_no_more q (with_head b n z.snap (told_from (n + 1) xs))
    by_test true r =
        ap (λ l. record { seq = n + 1; snap = z.snap } ∷ l) r
        ∙ sym (ap (λ b. with_head (not b) n z.snap (told_no_more q (told_from (n + 1) xs))) (ne_eqb (n + 1) q (λ e. omega (arith, p, e))))
    by_test false r = r

-- ---- in a list that is changed in place

-- one more, from either side
next : (n : ℕ) → suc n ≡ 1 + n
next n = omega arith

-- one more in order of number stands before the first with a greater one
pub also_inserts : (x : OwnSnap) (ys : List OwnSnap) → told_also x ys ≡ insert ys (position_or_len (λ y. nat_lt x.seq y.seq) ys) x
also_inserts x [] = refl
also_inserts x (y ∷ ys) = by_test (nat_lt x.seq y.seq) (also_inserts x ys)
  where
    by_test : (b : Bool) → told_also x ys ≡ insert ys (position_or_len (λ y. nat_lt x.seq y.seq) ys) x
        → (if b then x ∷ y ∷ ys else y ∷ told_also x ys) ≡ insert (y ∷ ys) (if not b then 1 + position_or_len (λ y. nat_lt x.seq y.seq) ys else 0) x
    by_test true r = refl
    by_test false r = ap (λ l. y ∷ l) r ∙ ap (λ n. insert (y ∷ ys) n x) (next (position_or_len (λ y. nat_lt x.seq y.seq) ys))

-- that place is there
pub place_fits : (p : OwnSnap → Bool) (ys : List OwnSnap) → position_or_len p ys ≤ length ys
place_fits p [] = omega arith
place_fits p (y ∷ ys) = by_test (p y) (place_fits p ys)
  where
    by_test : (b : Bool) → position_or_len p ys ≤ length ys → (if not b then 1 + position_or_len p ys else 0) ≤ length (y ∷ ys)
    by_test true r = omega arith
    by_test false r = omega (arith, r)

-- the first k are changed, and the next one is
pub mapped_next : {X : Type 0} (f : X → X) (xs : List X) (k : ℕ) (x y : X) → slice_get (take k (map f xs) ++ drop k xs) k ≡ Some x → y ≡ f x
    → slice_set (take k (map f xs) ++ drop k xs) k y ≡ take (suc k) (map f xs) ++ drop (suc k) xs
mapped_next f [] zero x y e t = absurd (cc e)
mapped_next f [] (suc k) x y e t = absurd (cc e)
mapped_next f (z ∷ xs) zero x y e t = let is : z ≡ x = cc e in ap (λ w. w ∷ xs) (t ∙ ap f (sym is))
mapped_next f (z ∷ xs) (suc k) x y e t = ap (λ l. f z ∷ l) (mapped_next f xs k x y e t)

-- the next one is there
pub within_next : {X : Type 0} (f : X → X) (xs : List X) (k : ℕ) → k < length xs → k < length (take k (map f xs) ++ drop k xs)
within_next f [] k h = absurd (omega (arith, h))
within_next f (x ∷ xs) zero h = omega arith
within_next f (x ∷ xs) (suc k) h = let r = within_next f xs k (omega (arith, h)) in omega (arith, r)

-- the same of what is told, where one with the number has another snapshot
pub again_next : (q : ℕ) (s : Snap) (xs now : List OwnSnap) (k : ℕ) (x y : OwnSnap) → now ≡ take k (told_again q s xs) ++ drop k xs → k < length now → x ≡ get_or now k x → y ≡ again q s x
    → slice_set now k y ≡ take (k + 1) (told_again q s xs) ++ drop (k + 1) xs
again_next q s xs now k x y n l v t =
    let e : slice_get now k ≡ Some x = slice_get_read now (length now) k x refl l v in
    let g : slice_get (take k (told_again q s xs) ++ drop k xs) k ≡ Some x = ap (λ l. slice_get l k) (sym n) ∙ e in
    let m : suc k ≡ k + 1 = omega arith in
    ap (λ l. slice_set l k y) n ∙ (mapped_next (again q s) xs k x y g t ∙ ap (λ m. take m (told_again q s xs) ++ drop m xs) m)

-- the test of the number
pub again_there : (q : ℕ) (s : Snap) (x : OwnSnap) → x.seq ≡ q → again q s x ≡ record x { snap = s }
again_there q s x e = ap (λ b. if b then record x { snap = s } else x) (eq-eqb x.seq q e)

pub again_other : (q : ℕ) (s : Snap) (x : OwnSnap) → (x.seq ≡ q → ⊥) → again q s x ≡ x
again_other q s x n = ap (λ b. if b then record x { snap = s } else x) (ne_eqb x.seq q n)

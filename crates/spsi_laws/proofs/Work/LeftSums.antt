-- Sums and counts over lists, after a write or a push.
use Rattle.std.proofs.Common.{Bool, List, Some, [], ap, arith, cond, false, filter, length, map, refl, slice_get, slice_set, suc, sym, true, zero, ℕ, ◌*◌, ◌++◌, ◌+◌, ◌∙◌, ◌∷◌, ◌≡◌, ◌≤◌}
use Rattle.std.proofs.lemmas.List.Sums.{sum_by-cons}
use Rattle.std.specs.List.{count_by, sum_by}
use Rattle.str_model.proofs.ListCounts.{one_if}

-- ---- sums

-- each counts for as much
pub sum_map_each : {A B : Type 0} (f : B → ℕ) (g : A → B) (n : ℕ) (xs : List A) → ((x : A) → f (g x) ≡ n) → sum_by f (map g xs) ≡ n * length xs
sum_map_each f g n [] h = omega arith
sum_map_each f g n (x ∷ xs) h =
    let r = sum_map_each f g n xs h in
    let a = sum_by-cons f (g x) (map g xs) in
    let b = h x in
    mult n (length xs) _ _ _ a b r
  where
    mult : (n l s t u : ℕ) → s ≡ t + u → t ≡ n → u ≡ n * l → s ≡ n * suc l
    mult n l s t u p q r = let e : n * suc l ≡ n + n * l = omega arith in omega (arith, e, p, q, r)

-- each counts for one at least
pub sum_at_least : {A : Type 0} (f : A → ℕ) (xs : List A) → ((x : A) → 1 ≤ f x) → length xs ≤ sum_by f xs
sum_at_least f [] h = omega arith
sum_at_least f (x ∷ xs) h =
    let r = sum_at_least f xs h in
    let a = sum_by-cons f x xs in
    let b = h x in
    omega (arith, r, a, b)

-- ---- counts

pub count-cons : {A : Type 0} (p : A → Bool) (x : A) (xs : List A) → count_by p (x ∷ xs) ≡ one_if (p x) + count_by p xs
count-cons p x xs = by_test (p x) (sum_by-cons _ x xs)
  where
    by_test : (b : Bool) → count_by p (x ∷ xs) ≡ cond b 1 0 + count_by p xs → count_by p (x ∷ xs) ≡ one_if b + count_by p xs
    by_test true e = e
    by_test false e = e

pub count_push : {A : Type 0} (p : A → Bool) (xs : List A) (y : A) → count_by p (xs ++ y ∷ []) ≡ count_by p xs + one_if (p y)
count_push p [] y = let e = count-cons p y [] in omega arith
count_push p (x ∷ xs) y =
    let e = count_push p xs y in
    let f = count-cons p x (xs ++ y ∷ []) in
    let g = count-cons p x xs in
    omega arith

pub count_set : {A : Type 0} (p : A → Bool) (xs : List A) (i : ℕ) (x y : A) → slice_get xs i ≡ Some x → p y ≡ p x → count_by p (slice_set xs i y) ≡ count_by p xs
count_set p [] i x y e q = absurd (cc e)
count_set p (z ∷ xs) zero x y e q =
    let s : z ≡ x = cc e in
    let f = count-cons p y xs in
    let g = count-cons p z xs in
    let h : one_if (p y) ≡ one_if (p z) = ap one_if (q ∙ ap p (sym s)) in
    omega arith
count_set p (z ∷ xs) (suc i) x y e q =
    let r = count_set p xs i x y e q in
    let f = count-cons p z (slice_set xs i y) in
    let g = count-cons p z xs in
    omega arith

-- what fails the test everywhere is not counted
pub count_none : {A : Type 0} (p : A → Bool) (xs : List A) → ((i : ℕ) (x : A) → slice_get xs i ≡ Some x → p x ≡ false) → count_by p xs ≡ 0
count_none p [] h = refl
count_none p (x ∷ xs) h =
    let r = count_none p xs (λ i y e. h (suc i) y e) in
    let a = count-cons p x xs in
    let b : one_if (p x) ≡ 0 = ap one_if (h 0 x refl) in
    omega (arith, r, a, b)

-- ---- lengths

-- fewer of a list that is filtered by a stronger test count for less
pub sum_filter_less : {A : Type 0} (f : A → ℕ) (p q : A → Bool) (xs : List A) → ((x : A) → p x ≡ true → q x ≡ true) → sum_by f (filter p xs) ≤ sum_by f (filter q xs)
sum_filter_less f p q [] h = omega arith
sum_filter_less {A = A} f p q (x ∷ xs) h = by_tests (p x) (q x) refl refl (sum_filter_less f p q xs h)
  where
    by_tests : (a b : Bool) → p x ≡ a → q x ≡ b → sum_by f (filter p xs) ≤ sum_by f (filter q xs)
        → sum_by f (cond a (x ∷ filter p xs) (filter p xs)) ≤ sum_by f (cond b (x ∷ filter q xs) (filter q xs))
    by_tests true true e g r =
        let a = sum_by-cons f x (filter p xs) in
        let b = sum_by-cons f x (filter q xs) in
        omega (arith, r, a, b)
    by_tests true false e g r = absurd (cc (h x e, g))
    by_tests false true e g r =
        let b = sum_by-cons f x (filter q xs) in
        omega (arith, r, b)
    by_tests false false e g r = r

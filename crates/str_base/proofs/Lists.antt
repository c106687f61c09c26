-- Lists read at one place, also after a write, a push or an append, and lists that a test runs over.
use Rattle.std.proofs.Common.{Bool, List, None, Some, [], ap, arith, drop, false, filter, find, inl, inr, length, refl, replicate, slice_get, slice_set, subst, sum_by, suc, sym, take, true, zero, ℕ, ◌++◌, ◌+◌, ◌<◌, ◌∙◌, ◌∷◌, ◌≡◌, ◌≢◌, ◌≤◌, ◌⊎◌, if◌then◌else◌, suc-add, zero-add}
use Rattle.std.proofs.lemmas.Bool.{and_from, and_parts, or_parts}
use Rattle.std.proofs.lemmas.List.Sums.{sum_by-set}
use Rattle.std.proofs.lemmas.Option.{get_or_from_slice_get, slice_get_within}
use Rattle.std.specs.List.{list_all, list_any}

-- ---- one place

-- within the list, something stands
pub slice_get_there : {A : Type 0} (xs : List A) (i : ℕ) → i < length xs → (x : A) × (slice_get xs i ≡ Some x)
slice_get_there [] i h = absurd (omega arith)
slice_get_there (y ∷ xs) zero h = (y, refl)
slice_get_there (y ∷ xs) (suc i) h = slice_get_there xs i (omega arith)

-- where nothing stands, the list has ended
pub slice_get_none : {A : Type 0} (xs : List A) (i : ℕ) → slice_get xs i ≡ None → length xs ≤ i
slice_get_none [] i e = omega arith
slice_get_none (x ∷ xs) zero e = absurd cc
slice_get_none (x ∷ xs) (suc i) e = let h = slice_get_none xs i e in omega arith

-- lists with the same elements are one
pub same_by_places : {A : Type 0} (xs ys : List A) → ((i : ℕ) → slice_get xs i ≡ slice_get ys i) → xs ≡ ys
same_by_places [] [] h = refl
same_by_places [] (y ∷ ys) h = absurd (let e = h 0 in cc)
same_by_places (x ∷ xs) [] h = absurd (let e = h 0 in cc)
same_by_places (x ∷ xs) (y ∷ ys) h =
    let e : Some x ≡ Some y = h 0 in
    let p : x ≡ y = cc in
    λ j. p j ∷ same_by_places xs ys (λ i. h (suc i)) j

-- a list from a place on begins with what stands there
pub drop_there : {A : Type 0} (xs : List A) (i : ℕ) (x : A) → slice_get xs i ≡ Some x → drop i xs ≡ x ∷ drop (suc i) xs
drop_there [] i x e = absurd cc
drop_there (y ∷ xs) zero x e = let q : y ≡ x = cc in ap (λ z. z ∷ xs) q
drop_there (y ∷ xs) (suc i) x e = drop_there xs i x e

-- and is empty where nothing stands there
pub drop_none : {A : Type 0} (xs : List A) (i : ℕ) → slice_get xs i ≡ None → drop i xs ≡ []
drop_none [] zero e = refl
drop_none [] (suc i) e = refl
drop_none (x ∷ xs) zero e = absurd cc
drop_none (x ∷ xs) (suc i) e = drop_none xs i e

-- a front with n elements is a front of a list of n at least
pub length-from_take : {A : Type 0} (n : ℕ) (xs : List A) → n ≡ length (take n xs) → n ≤ length xs
length-from_take zero xs e = omega arith
length-from_take (suc n) [] e = absurd (omega arith)
length-from_take (suc n) (x ∷ xs) e = let h = length-from_take n xs (omega arith) in omega arith

-- ---- after a write

-- what is read after a write was written there, or stands elsewhere and was there before
pub got_set : {A : Type 0} (xs : List A) (i j : ℕ) (y z : A) → slice_get (slice_set xs i y) j ≡ Some z → ((j ≡ i) × (z ≡ y)) ⊎ ((j ≢ i) × (slice_get xs j ≡ Some z))
got_set [] i j y z e = absurd cc
got_set (x ∷ xs) zero zero y z e = inl (refl, cc)
got_set (x ∷ xs) zero (suc j) y z e = inr (λ q. cc, e)
got_set (x ∷ xs) (suc i) zero y z e = inr (λ q. cc, e)
got_set (x ∷ xs) (suc i) (suc j) y z e = elim (got_set xs i j y z e) [ inl h ↦ inl (ap suc h.0, h.1) | inr h ↦ inr (λ q. h.0 (cc q), h.1) ]

-- a write elsewhere
pub get_set_other : {A : Type 0} (xs : List A) (i j : ℕ) (y : A) → j ≢ i → slice_get (slice_set xs i y) j ≡ slice_get xs j
get_set_other [] i j y n = refl
get_set_other (x ∷ xs) zero zero y n = absurd (n refl)
get_set_other (x ∷ xs) zero (suc j) y n = refl
get_set_other (x ∷ xs) (suc i) zero y n = refl
get_set_other (x ∷ xs) (suc i) (suc j) y n = get_set_other xs i j y (λ q. n (ap suc q))

-- a write where something stands
pub get_set : {A : Type 0} (xs : List A) (i : ℕ) (x y : A) → slice_get xs i ≡ Some x → slice_get (slice_set xs i y) i ≡ Some y
get_set [] i x y e = absurd cc
get_set (z ∷ xs) zero x y e = refl
get_set (z ∷ xs) (suc i) x y e = get_set xs i x y e

-- a write of what is there
pub set_got : {A : Type 0} (xs : List A) (i : ℕ) (x : A) → slice_get xs i ≡ Some x → slice_set xs i x ≡ xs
set_got [] i x e = refl
set_got (y ∷ xs) zero x e = cc
set_got (y ∷ xs) (suc i) x e = ap (λ ys. y ∷ ys) (set_got xs i x e)

-- a sum after a write
pub sum_by-set_got : {A : Type 0} (f : A → ℕ) (xs : List A) (i : ℕ) (x y : A) → slice_get xs i ≡ Some x → sum_by f (slice_set xs i y) + f x ≡ sum_by f xs + f y
sum_by-set_got f xs i x y e =
    let s = sum_by-set f xs i y x (slice_get_within xs i x e) in
    let g = ap f (get_or_from_slice_get xs i x x e) in
    omega (arith, s, g)

-- ---- after a push and an append

-- what is read after a push was pushed, or was there before
pub got_push : {A : Type 0} (xs : List A) (j : ℕ) (y z : A) → slice_get (xs ++ y ∷ []) j ≡ Some z → ((j ≡ length xs) × (z ≡ y)) ⊎ (slice_get xs j ≡ Some z)
got_push [] zero y z e = inl (refl, cc)
got_push [] (suc j) y z e = absurd cc
got_push (x ∷ xs) zero y z e = inr e
got_push (x ∷ xs) (suc j) y z e = elim (got_push xs j y z e) [ inl h ↦ inl (ap suc h.0, h.1) | inr h ↦ inr h ]

-- a push keeps what is there
pub get_push : {A : Type 0} (xs : List A) (i : ℕ) (y x : A) → slice_get xs i ≡ Some x → slice_get (xs ++ y ∷ []) i ≡ Some x
get_push [] i y x e = absurd cc
get_push (z ∷ xs) zero y x e = e
get_push (z ∷ xs) (suc i) y x e = get_push xs i y x e

-- what was pushed is last
pub get_pushed : {A : Type 0} (xs : List A) (y : A) → slice_get (xs ++ y ∷ []) (length xs) ≡ Some y
get_pushed [] y = refl
get_pushed (x ∷ xs) y = get_pushed xs y

-- a place in the first of two lists
pub get_append_left : {A : Type 0} (xs ys : List A) (i : ℕ) → i < length xs → slice_get (xs ++ ys) i ≡ slice_get xs i
get_append_left [] ys i h = absurd (omega arith)
get_append_left (x ∷ xs) ys zero h = refl
get_append_left (x ∷ xs) ys (suc i) h = get_append_left xs ys i (omega arith)

-- a place in the second
pub get_append_right : {A : Type 0} (xs ys : List A) (i : ℕ) → slice_get (xs ++ ys) (length xs + i) ≡ slice_get ys i
get_append_right [] ys i = rw (zero-add i) refl
get_append_right (x ∷ xs) ys i = rw (suc-add (length xs) i) (get_append_right xs ys i)

-- a list of one element over and over
pub got_replicate : {A : Type 0} (n j : ℕ) (y z : A) → slice_get (replicate n y) j ≡ Some z → z ≡ y
got_replicate zero j y z e = absurd cc
got_replicate (suc n) zero y z e = cc
got_replicate (suc n) (suc j) y z e = got_replicate n j y z e

-- ---- tests

-- a test that passes at each element
pub passes_at : {A : Type 0} (p : A → Bool) (xs : List A) (i : ℕ) (x : A) → list_all p xs ≡ true → slice_get xs i ≡ Some x → p x ≡ true
passes_at p [] i x e g = absurd cc
passes_at p (y ∷ ys) zero x e g = let same : y ≡ x = cc in ap p (sym same) ∙ (and_parts (p y) (list_all p ys) e).0
passes_at p (y ∷ ys) (suc i) x e g = passes_at p ys i x (and_parts (p y) (list_all p ys) e).1 g

-- a test that passes at no element
pub fails_at : {A : Type 0} (p : A → Bool) (xs : List A) (i : ℕ) (x : A) → list_any p xs ≡ false → slice_get xs i ≡ Some x → p x ≡ false
fails_at p [] i x e g = absurd cc
fails_at p (y ∷ ys) zero x e g = let same : y ≡ x = cc in ap p (sym same) ∙ (or_parts (p y) (list_any p ys) e).0
fails_at p (y ∷ ys) (suc i) x e g = fails_at p ys i x (or_parts (p y) (list_any p ys) e).1 g

-- where a test passes at each element, so does a weaker one
pub list_all-weaker : {A : Type 0} (p q : A → Bool) → ((x : A) → p x ≡ true → q x ≡ true) → (xs : List A) → list_all p xs ≡ true → list_all q xs ≡ true
list_all-weaker p q h [] a = refl
list_all-weaker p q h (x ∷ xs) a = let k = and_parts (p x) (list_all p xs) a in and_from (q x) (list_all q xs) (h x k.0) (list_all-weaker p q h xs k.1)

-- what is found passes the test
pub found_passes : {A : Type 0} (p : A → Bool) (xs : List A) (x : A) → find p xs ≡ Some x → p x ≡ true
found_passes p [] x e = absurd (cc e)
found_passes {A = A} p (y ∷ ys) x e = by_test (p y) refl (found_passes p ys x) e
  where
    by_test : (b : Bool) → p y ≡ b → (find p ys ≡ Some x → p x ≡ true) → (if b then Some y else find p ys) ≡ Some x → p x ≡ true
    by_test true q rec k = let same : y ≡ x = cc in ap p (sym same) ∙ q
    by_test false q rec k = rec k

-- what a filter keeps is no longer
pub length-filter-le : {A : Type 0} (p : A → Bool) (xs : List A) → length (filter p xs) ≤ length xs
length-filter-le p [] = omega arith
length-filter-le {A = A} p (x ∷ xs) = by_test (p x) (length-filter-le p xs)
  where
    by_test : (b : Bool) → length (filter p xs) ≤ length xs → length (if b then x ∷ filter p xs else filter p xs) ≤ suc (length xs)
    by_test true rec = omega arith
    by_test false rec = omega arith

-- ---- two members

-- the first or the second of two
pub of_two : {X : Type 0} (a b : X) (P : X → Type 0) → P a → P b → (i : ℕ) (x : X) → slice_get (a ∷ b ∷ []) i ≡ Some x → P x
of_two a b P p q zero x e = let f : a ≡ x = cc e in subst P f p
of_two a b P p q (suc zero) x e = let f : b ≡ x = cc e in subst P f q
of_two a b P p q (suc (suc i)) x e = absurd (cc e)

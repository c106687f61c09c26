-- Lists whose numbers do not fall.
use Rattle.std.proofs.Common.{Bool, List, Option, Some, [], ap, arith, false, filter, get_or, inl, inr, length, map, refl, slice_get, suc, take, true, zero, ℕ, ◌<◌, ◌∙◌, ◌∷◌, ◌≡◌, ◌≤◌}
use Rattle.std.specs.List.{last_or}
use Rattle.std.specs.List.Sorted.{IsNonDecreasingBy}
use Rattle.str_base.specs.Members.{In}
use Rattle.history_audit.specs.Orders.{Rising}

in_map_take : {A : Type 0} (f : A → ℕ) (i : ℕ) (xs : List A) (n : ℕ) → In n (map f (take i xs)) → In n (map f xs)
in_map_take f zero [] n h = absurd h
in_map_take f zero (x ∷ xs) n h = absurd h
in_map_take f (suc i) [] n h = absurd h
in_map_take f (suc i) (x ∷ xs) n (inl e) = inl e
in_map_take f (suc i) (x ∷ xs) n (inr h) = inr (in_map_take f i xs n h)

-- the first of them do not fall
pub rising_take : {A : Type 0} (f : A → ℕ) (i : ℕ) (xs : List A) → Rising (map f xs) → Rising (map f (take i xs))
rising_take f zero [] r = tt
rising_take f zero (x ∷ xs) r = tt
rising_take f (suc i) [] r = tt
rising_take f (suc i) (x ∷ xs) r = (λ m h. r.0 m (in_map_take f i xs m h), rising_take f i xs r.1)

got_in : {A : Type 0} (f : A → ℕ) (xs : List A) (j : ℕ) (d : A) → j < length xs → In (f (get_or xs j d)) (map f xs)
got_in f [] j d h = absurd (omega arith)
got_in f (x ∷ xs) zero d h = inl refl
got_in f (x ∷ xs) (suc j) d h = inr (got_in f xs j d (omega arith))

-- as std says it
pub rising_by : {A : Type 0} (f : A → ℕ) (xs : List A) → Rising (map f xs) → IsNonDecreasingBy f xs
rising_by f xs r = λ i j d l h. climbs f xs r i j d l h
  where
    climbs : {A : Type 0} (f : A → ℕ) (xs : List A) → Rising (map f xs) → (i j : ℕ) (d : A) → i ≤ j → j < length xs → f (get_or xs i d) ≤ f (get_or xs j d)
    climbs f [] r i j d l h = absurd (omega arith)
    climbs f (x ∷ xs) r zero zero d l h = omega arith
    climbs f (x ∷ xs) r zero (suc j) d l h = r.0 (f (get_or xs j d)) (got_in f xs j d (omega arith))
    climbs f (x ∷ xs) r (suc i) zero d l h = absurd (omega arith)
    climbs f (x ∷ xs) r (suc i) (suc j) d l h = climbs f xs r.1 i j d (omega arith) (omega arith)

-- what passes is the first part, where the others fail
pub filter_point : {A : Type 0} (p : A → Bool) (i : ℕ) (xs : List A) → ((k : ℕ) (d : A) → k < i → p (get_or xs k d) ≡ true)
    → ((k : ℕ) (d : A) → i ≤ k → k < length xs → p (get_or xs k d) ≡ false) → filter p xs ≡ take i xs
filter_point p zero [] f g = refl
filter_point p (suc i) [] f g = refl
filter_point p zero (x ∷ xs) f g = rw (g 0 x (omega arith) (omega arith)) (filter_point p zero xs (λ k d h. absurd (omega arith)) (λ k d l h. g (suc k) d (omega arith) (omega arith)) ∙ none xs)
  where
    none : {A : Type 0} (xs : List A) → take 0 xs ≡ []
    none [] = refl
    none (x ∷ xs) = refl
filter_point p (suc i) (x ∷ xs) f g =
    rw (f 0 x (omega arith)) (ap (λ ys. x ∷ ys) (filter_point p i xs (λ k d h. f (suc k) d (omega arith)) (λ k d l h. g (suc k) d (omega arith) (omega arith))))

-- the last of the first j and one more
pub last_take : {A : Type 0} (o : Option A) (xs : List A) (j : ℕ) → j < length xs → last_or o (take (suc j) xs) ≡ slice_get xs j
last_take o [] j h = absurd (omega arith)
last_take o (x ∷ []) zero h = refl
last_take o (x ∷ y ∷ xs) zero h = refl
last_take o (x ∷ xs) (suc j) h = last_take (Some x) xs j (omega arith)

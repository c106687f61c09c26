-- The bound at which a node prunes: it is at or below its own low mark and all that it has heard of others, and rises with them.
use Rattle.std.proofs.Common.{List, Some, [], ap, arith, max, refl, slice_get, slice_index, slice_set, suc, zero, ℕ, ◌∷◌, ◌≡◌, ◌≢◌, ◌≤◌}
use Rattle.str_model.specs.PrunedRuns.{bound, least_with}

least_own : (l : ℕ) (hs : List ℕ) → least_with l hs ≤ l
least_own l [] = omega arith
least_own l (h ∷ hs) = let r = least_own l hs in omega (arith, r)

least_each : (l : ℕ) (hs : List ℕ) (m x : ℕ) → slice_get hs m ≡ Some x → least_with l hs ≤ x
least_each l [] m x e = absurd (cc e)
least_each l (h ∷ hs) zero x e = let s : h ≡ x = cc e in omega (arith, s)
least_each l (h ∷ hs) (suc m) x e = let r = least_each l hs m x e in omega (arith, r)

pub bound_own : (l i : ℕ) (row : List ℕ) → bound l i row ≤ l
bound_own l i [] = omega arith
bound_own l zero (h ∷ hs) = least_own l hs
bound_own l (suc i) (h ∷ hs) = let r = bound_own l i hs in omega (arith, r)

pub bound_heard : (l i : ℕ) (row : List ℕ) (m x : ℕ) → m ≢ i → slice_get row m ≡ Some x → bound l i row ≤ x
bound_heard l i [] m x n e = absurd (cc e)
bound_heard l zero (h ∷ hs) zero x n e = absurd (n refl)
bound_heard l zero (h ∷ hs) (suc m) x n e = least_each l hs m x e
bound_heard l (suc i) (h ∷ hs) zero x n e = let s : h ≡ x = cc e in omega (arith, s)
bound_heard l (suc i) (h ∷ hs) (suc m) x n e = let r = bound_heard l i hs m x (λ q. n (ap suc q)) e in omega (arith, r)

-- each number of a row is at most the one at its place in the other
abbrev pub Raises : List ℕ → List ℕ → Type 0
Raises [] row = Unit {0}
Raises (h ∷ hs) [] = ⊥
Raises (h ∷ hs) (k ∷ ks) = (h ≤ k) × Raises hs ks

abbrev pub SameLength : List ℕ → List ℕ → Type 0
SameLength [] [] = Unit {0}
SameLength (h ∷ hs) (k ∷ ks) = SameLength hs ks
SameLength _ _ = ⊥

least_raises : (l k : ℕ) (hs ks : List ℕ) → l ≤ k → SameLength hs ks → Raises hs ks → least_with l hs ≤ least_with k ks
least_raises l k [] [] le s r = le
least_raises l k [] (y ∷ ks) le s r = absurd s
least_raises l k (x ∷ hs) [] le s r = absurd s
least_raises l k (x ∷ hs) (y ∷ ks) le s r = let a = least_raises l k hs ks le s r.1 in let b = r.0 in omega (arith, a, b)

pub bound_raises : (l k i : ℕ) (hs ks : List ℕ) → l ≤ k → SameLength hs ks → Raises hs ks → bound l i hs ≤ bound k i ks
bound_raises l k i [] [] le s r = le
bound_raises l k i [] (y ∷ ks) le s r = absurd s
bound_raises l k i (x ∷ hs) [] le s r = absurd s
bound_raises l k zero (x ∷ hs) (y ∷ ks) le s r = least_raises l k hs ks le s r.1
bound_raises l k (suc i) (x ∷ hs) (y ∷ ks) le s r = let a = bound_raises l k i hs ks le s r.1 in let b = r.0 in omega (arith, a, b)

pub raised_row : (row : List ℕ) (m l : ℕ) → SameLength row (slice_set row m (max (slice_index row m) l)) × Raises row (slice_set row m (max (slice_index row m) l))
raised_row [] m l = (tt, tt)
raised_row (h ∷ hs) zero l = (same_self hs, (omega arith, raises_self hs))
  where
    same_self : (xs : List ℕ) → SameLength xs xs
    same_self [] = tt
    same_self (x ∷ xs) = same_self xs

    raises_self : (xs : List ℕ) → Raises xs xs
    raises_self [] = tt
    raises_self (x ∷ xs) = (omega arith, raises_self xs)
raised_row (h ∷ hs) (suc m) l = let r = raised_row hs m l in (r.0, (omega arith, r.1))

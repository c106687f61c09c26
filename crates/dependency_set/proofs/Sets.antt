-- Lists of dependencies that rise by number, and their lengths.
use Rattle.std.proofs.Common.{Bool, List, [], arith, rules, tests, drop, false, if◌then◌else◌, length, ltb-true, nat_lt, refl, sub-one, suc, true, zero, ℕ, ◌-◌, ◌<◌, ◌==◌, ◌∷◌, ◌≡◌, ◌≤◌}
use Rattle.std.specs.List.{AllByRecursion}
use Rattle.std.specs.Prelude.{slice_index_or}
use Rattle.str_base.specs.declared.limits.TheConstants.{DEPENDENCIES}
use Rattle.dependency_set.specs.declared.names.Dep.{Dep}
use Rattle.dependency_set.specs.Snapshots.{IsRising, IsSet, insert_dep, union}

-- ---- lengths

-- a list is no longer than with one more
insert-length : (d : Dep) (xs : List Dep) → length xs ≤ length (insert_dep d xs)
insert-length d [] = omega arith
insert-length d (x ∷ xs) = by_tests (insert-length d xs) (nat_lt d.seq x.seq) (d.seq == x.seq)
  where
    by_tests : length xs ≤ length (insert_dep d xs) → (a b : Bool)
        → length (x ∷ xs) ≤ length (if a then d ∷ x ∷ xs else (if b then x ∷ xs else x ∷ insert_dep d xs))
    by_tests rec true b = omega arith
    by_tests rec false true = omega arith
    by_tests rec false false = omega arith

-- a part of the first list, joined with the second, with the one before it, is no longer than both in one
joined-at : (ds es : List Dep) (i : ℕ) (d : Dep) → i < length ds → length (insert_dep (slice_index_or ds i d) (union (drop (suc i) ds) es)) ≤ length (union ds es)
joined-at [] es i d h = absurd (omega arith)
joined-at (x ∷ xs) es zero d h = omega arith
joined-at (x ∷ xs) es (suc i) d h = omega (arith, joined-at xs es i d (omega arith), insert-length x (union xs es))

-- the same, counted from the back
joined-back : (ds es : List Dep) (n : ℕ) (d : Dep) → 0 < n → n ≤ length ds → length (insert_dep (slice_index_or ds (n - 1) d) (union (drop n ds) es)) ≤ length (union ds es)
joined-back ds es zero d p h = absurd (omega arith)
joined-back ds es (suc i) d p h = rw sub-one (joined-at ds es i d (omega arith))

-- the next one fits
pub next-fits : (ds es items list : List Dep) (n : ℕ) (d : Dep) → length (union ds es) ≤ DEPENDENCIES → items ≡ ds → list ≡ union (drop n items) es → 0 < n → n ≤ length items
    → length (insert_dep (slice_index_or items (n - 1) d) list) ≤ DEPENDENCIES
next-fits ds es items list n d h e f p l =
    rw f
    (let k : length (union items es) ≤ DEPENDENCIES = rw e h in
    omega (arith, k, joined-back items es n d p l))

-- both in one fit, where they fit with one more
pub both-fit : (d : Dep) (ds es : List Dep) → length (insert_dep d (union ds es)) ≤ DEPENDENCIES → length (union ds es) ≤ DEPENDENCIES
both-fit d ds es h = omega (arith, insert-length d (union ds es))

-- ---- rising

-- what holds of all and of one more
pub all-insert : (P : Dep → Type 0) (d : Dep) (xs : List Dep) → P d → AllByRecursion P xs → AllByRecursion P (insert_dep d xs)
all-insert P d [] p h = (p, tt)
all-insert P d (x ∷ xs) p h = by_tests (all-insert P d xs p h.1) (nat_lt d.seq x.seq) (d.seq == x.seq)
  where
    by_tests : AllByRecursion P (insert_dep d xs) → (a b : Bool) → AllByRecursion P (if a then d ∷ x ∷ xs else (if b then x ∷ xs else x ∷ insert_dep d xs))
    by_tests rec true b = (p, h)
    by_tests rec false true = h
    by_tests rec false false = (h.0, rec)

-- what is above one number is above a lesser one
pub all-above : (a b : ℕ) (xs : List Dep) → a < b → AllByRecursion (λ e. b < e.seq) xs → AllByRecursion (λ e. a < e.seq) xs
all-above a b [] l h = tt
all-above a b (x ∷ xs) l h = (omega (arith, h.0), all-above a b xs l h.1)

-- neither below nor equal is above
above : (m n : ℕ) → nat_lt m n ≡ false → (m == n) ≡ false → n < m
above m n e f = search (rules, tests)

-- with one more the list rises
pub rising-insert : (d : Dep) (xs : List Dep) → IsRising xs → IsRising (insert_dep d xs)
rising-insert d [] h = (tt, tt)
rising-insert d (x ∷ xs) h = by_tests (rising-insert d xs h.1) (nat_lt d.seq x.seq) (d.seq == x.seq) refl refl
  where
    by_tests : IsRising (insert_dep d xs) → (a b : Bool) → nat_lt d.seq x.seq ≡ a → (d.seq == x.seq) ≡ b
        → IsRising (if a then d ∷ x ∷ xs else (if b then x ∷ xs else x ∷ insert_dep d xs))
    by_tests rec true b e f = let l = ltb-true d.seq x.seq e in ((l, all-above d.seq x.seq xs l h.0), h)
    by_tests rec false true e f = h
    by_tests rec false false e f = (all-insert (λ k. x.seq < k.seq) d xs (above d.seq x.seq e f) h.0, rec)

-- both in one rise
pub rising-union : (ds es : List Dep) → IsRising es → IsRising (union ds es)
rising-union [] es h = h
rising-union (d ∷ ds) es h = rising-insert d (union ds es) (rising-union ds es h)

-- the list that is made of both and one more is a set
pub set-all : (d : Dep) (ds es all more : List Dep) → more ≡ insert_dep d all → all ≡ union ds es → IsSet es → length (insert_dep d (union ds es)) ≤ DEPENDENCIES → IsSet more
set-all d ds es all more e f is h =
    rw (e, f) (record { rising = rising-insert d (union ds es) (rising-union ds es is.rising); few = h })

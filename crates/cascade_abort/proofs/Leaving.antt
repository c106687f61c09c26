-- Dependencies of which some of the first leave still rise by number, and are no more.
use Rattle.std.proofs.Common.{Bool, List, [], arith, drop, filter, if◌then◌else◌, false, length, length-append, suc, take, true, zero, ℕ, ◌+◌, ◌++◌, ◌<◌, ◌∷◌, ◌≤◌}
use Rattle.str_base.specs.declared.limits.TheConstants.{DEPENDENCIES}
use Rattle.std.specs.List.{AllByRecursion}
use Rattle.dependency_set.specs.declared.names.Dep.{Dep}
use Rattle.dependency_set.specs.Snapshots.{IsRising, IsSet}

all_part : (P : Dep → Type 0) (p : Dep → Bool) (n : ℕ) (ds : List Dep) → AllByRecursion P ds → AllByRecursion P (filter p (take n ds) ++ drop n ds)
all_part P p zero ds h = h
all_part P p (suc n) [] h = tt
all_part P p (suc n) (d ∷ ds) h = by_test (p d) (all_part P p n ds h.1)
  where
    by_test : (b : Bool) → AllByRecursion P (filter p (take n ds) ++ drop n ds) → AllByRecursion P ((if b then d ∷ filter p (take n ds) else filter p (take n ds)) ++ drop n ds)
    by_test true rec = (h.0, rec)
    by_test false rec = rec

rising_part : (p : Dep → Bool) (n : ℕ) (ds : List Dep) → IsRising ds → IsRising (filter p (take n ds) ++ drop n ds)
rising_part p zero ds r = r
rising_part p (suc n) [] r = tt
rising_part p (suc n) (d ∷ ds) r = by_test (p d) (all_part (λ e. d.seq < e.seq) p n ds r.0) (rising_part p n ds r.1)
  where
    by_test : (b : Bool) → AllByRecursion (λ e. d.seq < e.seq) (filter p (take n ds) ++ drop n ds) → IsRising (filter p (take n ds) ++ drop n ds)
        → IsRising ((if b then d ∷ filter p (take n ds) else filter p (take n ds)) ++ drop n ds)
    by_test true all rec = (all, rec)
    by_test false all rec = rec

part_length : (p : Dep → Bool) (n : ℕ) (ds : List Dep) → length (filter p (take n ds) ++ drop n ds) ≤ length ds
part_length p zero ds = omega arith
part_length p (suc n) [] = omega arith
part_length p (suc n) (d ∷ ds) = by_test (p d) (part_length p n ds)
  where
    by_test : (b : Bool) → length (filter p (take n ds) ++ drop n ds) ≤ length ds → length ((if b then d ∷ filter p (take n ds) else filter p (take n ds)) ++ drop n ds) ≤ length (d ∷ ds)
    by_test true rec = omega (arith, rec)
    by_test false rec = omega (arith, rec)

-- what is left is a set
pub part_set : (p : Dep → Bool) (n : ℕ) (ds : List Dep) → IsSet ds → IsSet (filter p (take n ds) ++ drop n ds)
part_set p n ds s = record { rising = rising_part p n ds s.rising; few = omega (arith, part_length p n ds, s.few) }

-- both parts fit
pub part_few : (p : Dep → Bool) (n : ℕ) (ds : List Dep) → IsSet ds → length (filter p (take n ds)) + length (drop n ds) ≤ DEPENDENCIES
part_few p n ds s = omega (arith, length-append (filter p (take n ds)) (drop n ds), part_length p n ds, s.few)

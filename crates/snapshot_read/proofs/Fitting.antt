-- What a snapshot takes over stays among the transactions that are told of, and so fits.
use Rattle.std.proofs.Common.{Bool, List, Some, [], arith, false, if◌then◌else◌, length, refl, rules, suc, tests, true, ℕ, ◌<◌, ◌==◌, ◌∷◌, ◌≡◌, ◌≤◌}
use Rattle.std.specs.List.{AllByRecursion}
use Rattle.dependency_set.specs.declared.names.Dep.{Dep}
use Rattle.dependency_set.specs.declared.snaps.OwnSnap.{OwnSnap}
use Rattle.dependency_set.specs.Snapshots.{IsRising, IsSet, Snap, accept_local, union}
use Rattle.dependency_set.proofs.Sets.{all-insert, rising-insert, rising-union}
use Rattle.snapshot_read.specs.Shown.{AreNamed, IsNamed, OthersNamed, told}

-- ---- what holds of all

-- of two lists
all_union : (P : Dep → Type 0) (ds es : List Dep) → AllByRecursion P ds → AllByRecursion P es → AllByRecursion P (union ds es)
all_union P [] es h k = k
all_union P (d ∷ ds) es h k = all-insert P d (union ds es) h.0 (all_union P ds es h.1 k)

-- ---- no more than are told of

-- the list without the one with this number
abbrev but : ℕ → List Dep → List Dep
but q [] = []
but q (d ∷ ds) = if q == d.seq then ds else d ∷ but q ds

but_length : (q : ℕ) (ds : List Dep) → length ds ≤ suc (length (but q ds))
but_length q [] = omega arith
but_length q (d ∷ ds) = by_test (q == d.seq) (but_length q ds)
  where
    by_test : (b : Bool) → length ds ≤ suc (length (but q ds)) → suc (length ds) ≤ suc (length (if b then ds else d ∷ but q ds))
    by_test true rec = omega arith
    by_test false rec = omega (arith, rec)

but_all : (P : Dep → Type 0) (q : ℕ) (ds : List Dep) → AllByRecursion P ds → AllByRecursion P (but q ds)
but_all P q [] h = tt
but_all P q (d ∷ ds) h = by_test (q == d.seq) (but_all P q ds h.1)
  where
    by_test : (b : Bool) → AllByRecursion P (but q ds) → AllByRecursion P (if b then ds else d ∷ but q ds)
    by_test true rec = h.1
    by_test false rec = (h.0, rec)

but_rising : (q : ℕ) (ds : List Dep) → IsRising ds → IsRising (but q ds)
but_rising q [] h = tt
but_rising q (d ∷ ds) h = by_test (q == d.seq) (but_rising q ds h.1)
  where
    by_test : (b : Bool) → IsRising (but q ds) → IsRising (if b then ds else d ∷ but q ds)
    by_test true rec = h.1
    by_test false rec = (but_all (λ e. d.seq < e.seq) q ds h.0, rec)

-- a number other than the first one's is told of by the others
named_rest : (x : OwnSnap) (xs : List OwnSnap) (q : ℕ) → (x.seq == q) ≡ false → IsNamed (x ∷ xs) q → IsNamed xs q
named_rest x xs q e h = rw e at h

-- a lesser number is another
other : (a b c : ℕ) → (a == b) ≡ true → b < c → (a == c) ≡ false
other a b c e l = search (rules, tests)

-- so are all above it
above_rest : (x : OwnSnap) (xs : List OwnSnap) (n : ℕ) (ds : List Dep) → (x.seq == n) ≡ true → AllByRecursion (λ e. n < e.seq) ds → AreNamed (x ∷ xs) ds → AreNamed xs ds
above_rest x xs n [] t a h = tt
above_rest x xs n (d ∷ ds) t a h = (named_rest x xs d.seq (other x.seq n d.seq t a.0) h.0, above_rest x xs n ds t a.1 h.1)

-- those without the first one's number are told of by the others
but_named : (x : OwnSnap) (xs : List OwnSnap) (ds : List Dep) → IsRising ds → AreNamed (x ∷ xs) ds → AreNamed xs (but x.seq ds)
but_named x xs [] r h = tt
but_named x xs (d ∷ ds) r h = by_test (x.seq == d.seq) refl (but_named x xs ds r.1 h.1)
  where
    by_test : (b : Bool) → (x.seq == d.seq) ≡ b → AreNamed xs (but x.seq ds) → AreNamed xs (if b then ds else d ∷ but x.seq ds)
    by_test true e rec = above_rest x xs d.seq ds e r.0 h.1
    by_test false e rec = (named_rest x xs d.seq e h.0, rec)

-- a rising list of those told of is no longer than what tells of them
pub no_more : (own : List OwnSnap) (ds : List Dep) → IsRising ds → AreNamed own ds → length ds ≤ length own
no_more [] [] r h = omega arith
no_more [] (d ∷ ds) r h = absurd (cc h.0)
no_more (x ∷ xs) ds r h = omega (arith, but_length x.seq ds, no_more xs (but x.seq ds) (but_rising x.seq ds r) (but_named x xs ds r h))

-- ---- what is taken over

-- it is told of
pub taken_named : (own : List OwnSnap) (q : ℕ) (snap of : Snap) → AreNamed own snap.deps → told own q ≡ Some of → OthersNamed own q → AreNamed own (accept_local snap q of).deps
taken_named own q snap of d t o =
    all-insert (λ e. IsNamed own e.seq) _ (union of.deps snap.deps) (rw t refl) (all_union (λ e. IsNamed own e.seq) of.deps snap.deps (o of t) d)

-- so it fits
pub taken_fits : (own : List OwnSnap) (q : ℕ) (snap of : Snap) → length own ≤ 15 → IsSet snap.deps → AreNamed own snap.deps → told own q ≡ Some of → OthersNamed own q
    → length (accept_local snap q of).deps ≤ 15
taken_fits own q snap of f s d t o =
    let all = (accept_local snap q of).deps in
    omega (arith, f, no_more own all (rising-insert _ (union of.deps snap.deps) (rising-union of.deps snap.deps s.rising)) (taken_named own q snap of d t o))

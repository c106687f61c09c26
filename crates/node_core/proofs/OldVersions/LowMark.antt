-- The low mark as the least over the places of those that are undecided.
use Rattle.std.proofs.Common.{Bool, List, None, Option, Some, [], add-one, ap, arith, drop, false, if◌then◌else◌, length, min, refl, slice_get, subst, suc, sym, true, zero, ℕ, ◌+◌, ◌∙◌, ◌∷◌, ◌≡◌, ◌≤◌}
use Rattle.std.proofs.Math.ListN.{drop_of_length-le}
use Rattle.node_core.proofs.PassTurns.PassOver.{AtOpen}
use Rattle.node_parts.specs.Owning.{open_from}
use Rattle.str_base.proofs.Lists.{drop_there}
use Rattle.str_model.specs.Pruning.{low_from}
use Rattle.str_model.specs.Views.{Own, is_decided}

-- the snapshot of the one that stands there
abbrev pub rs_of : Option Own → ℕ
rs_of None = 0
rs_of (Some x) = x.snap.rs

-- the least of a number and the snapshots at these places
abbrev pub least_at : List Own → ℕ → List ℕ → ℕ
least_at own f [] = f
least_at own f (p ∷ ps) = least_at own (min f (rs_of (slice_get own p))) ps

low_min : (f r : ℕ) (xs : List Own) → low_from (min f r) xs ≡ min r (low_from f xs)
low_min f r [] = omega arith
low_min f r (x ∷ xs) = by_test (is_decided x.phase) (low_min f r xs)
  where
    by_test : (b : Bool) → low_from (min f r) xs ≡ min r (low_from f xs)
        → (if b then low_from (min f r) xs else min x.snap.rs (low_from (min f r) xs)) ≡ min r (if b then low_from f xs else min x.snap.rs (low_from f xs))
    by_test true e = e
    by_test false e = omega (arith, e)

-- over the undecided ones of the list from a place on
low_from_place : (own : List Own) (m : ℕ) (xs : List Own) → ((i : ℕ) (x : Own) → slice_get xs i ≡ Some x → slice_get own (m + i) ≡ Some x) → (f : ℕ)
    → least_at own f (open_from m xs) ≡ low_from f xs
low_from_place own m [] h f = refl
low_from_place own m (x ∷ xs) h f = by_test (is_decided x.phase) (low_from_place own (m + 1) xs later)
  where
    later : (i : ℕ) (y : Own) → slice_get xs i ≡ Some y → slice_get own (m + 1 + i) ≡ Some y
    later i y e = subst (λ (n : ℕ). slice_get own n ≡ Some y) (omega arith) (h (suc i) y e)

    first : rs_of (slice_get own m) ≡ x.snap.rs
    first = ap rs_of (subst (λ (n : ℕ). slice_get own n ≡ Some x) (omega arith) (h zero x refl))

    by_test : (b : Bool) → ((g : ℕ) → least_at own g (open_from (m + 1) xs) ≡ low_from g xs)
        → least_at own f (if b then open_from (m + 1) xs else m ∷ open_from (m + 1) xs) ≡ (if b then low_from f xs else min x.snap.rs (low_from f xs))
    by_test true r = r f
    by_test false r = ap (λ (n : ℕ). least_at own (min f n) (open_from (m + 1) xs)) first ∙ (r (min f x.snap.rs) ∙ low_min f x.snap.rs xs)

pub low_open : (own : List Own) (f : ℕ) → least_at own f (open_from 0 own) ≡ low_from f own
low_open own f = low_from_place own 0 own (λ i x e. subst (λ (n : ℕ). slice_get own n ≡ Some x) (omega arith) e) f

-- one place more
pub low_next : (own : List Own) (f r l : ℕ) (places : List ℕ) (i p : ℕ) → slice_get places i ≡ Some p → rs_of (slice_get own p) ≡ r → least_at own f (drop i places) ≡ l
    → least_at own (min f r) (drop (i + 1) places) ≡ l
low_next own f r l places i p e q h =
    ap (λ (n : ℕ). least_at own (min f n) (drop (i + 1) places)) (sym q) ∙ (ap (λ (n : ℕ). least_at own (min f (rs_of (slice_get own p))) (drop n places)) (add-one i)
    ∙ (sym (ap (least_at own f) (drop_there places i p e)) ∙ h))

-- the one that stands at an open place
pub owner_at : (own : List Own) (p : ℕ) {k : ℕ} → AtOpen 0 own k p → (x : Own) × (slice_get own p ≡ Some x)
owner_at own p a = (a.owner, subst (λ (n : ℕ). slice_get own n ≡ Some a.owner) (let q = a.is_place in omega (arith, q)) a.owns)

-- no place is left
pub low_ends : (own : List Own) (f l : ℕ) (places : List ℕ) (i : ℕ) → length places ≤ i → least_at own f (drop i places) ≡ l → f ≡ l
low_ends own f l places i e h = ap (least_at own f) (sym (drop_of_length-le places e)) ∙ h

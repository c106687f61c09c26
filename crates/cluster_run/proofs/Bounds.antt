-- The bound of a node, as the code goes through a row.
use Rattle.std.proofs.lemmas.Bool.{eqb-false}
use Rattle.std.proofs.Common.{Bool, List, [], ap, arith, drop, eqb-true, false, length, min, nat_eq, refl, subst, suc, sym, true, zero, ℕ, ◌<◌, ◌∙◌, ◌∷◌, ◌≡◌, ◌≢◌, ◌≤◌}
use Rattle.std.specs.Prelude.{slice_index}
use Rattle.str_model.specs.PrunedRuns.{bound, least_with}

-- the bound of the places from the j-th on
abbrev pub bound_from : ℕ → ℕ → ℕ → List ℕ → ℕ
bound_from l i zero row = bound l i row
bound_from l i (suc j) [] = l
bound_from l zero (suc j) (h ∷ hs) = least_with l (drop j hs)
bound_from l (suc i) (suc j) (h ∷ hs) = bound_from l i j hs

least_next : (l j : ℕ) (hs : List ℕ) → j < length hs → least_with l (drop j hs) ≡ min (slice_index hs j) (least_with l (drop (suc j) hs))
least_next l j [] h = absurd (omega (arith, h))
least_next l zero (x ∷ hs) h = refl
least_next l (suc j) (x ∷ hs) h = least_next l j hs (omega (arith, h))

-- another's place counts
bound_next : (l i j : ℕ) (row : List ℕ) → j < length row → j ≢ i → bound_from l i j row ≡ min (slice_index row j) (bound_from l i (suc j) row)
bound_next l i j [] h n = absurd (omega (arith, h))
bound_next l zero zero (x ∷ hs) h n = absurd (n refl)
bound_next l (suc i) zero (x ∷ hs) h n = refl
bound_next l zero (suc j) (x ∷ hs) h n = least_next l j hs (omega (arith, h))
bound_next l (suc i) (suc j) (x ∷ hs) h n = bound_next l i j hs (omega (arith, h)) (λ q. n (ap suc q))

-- the own place does not
bound_own_place : (l i : ℕ) (row : List ℕ) → i < length row → bound_from l i i row ≡ bound_from l i (suc i) row
bound_own_place l i [] h = absurd (omega (arith, h))
bound_own_place l zero (x ∷ hs) h = refl
bound_own_place l (suc i) (x ∷ hs) h = bound_own_place l i hs (omega (arith, h))

-- at the end the own mark is left
pub bound_end : (l i : ℕ) (row : List ℕ) → bound_from l i (length row) row ≡ l
bound_end l i [] = refl
bound_end l zero (x ∷ hs) = least_end hs
  where
    least_end : (ys : List ℕ) → least_with l (drop (length ys) ys) ≡ l
    least_end [] = refl
    least_end (y ∷ ys) = least_end ys
bound_end l (suc i) (x ∷ hs) = bound_end l i hs

-- one more place
pub bound_turn : (l i j k : ℕ) (row : List ℕ) (least new time : ℕ) (b : Bool) → k ≡ suc j → b ≡ nat_eq j i → time ≡ slice_index row j → (b ≡ true → new ≡ least) → (b ≡ false → new ≡ min least time) → j < length row
    → min least (bound_from l i j row) ≡ bound l i row → least ≤ l → (min new (bound_from l i k row) ≡ bound l i row) × (new ≤ l)
bound_turn l i j k row least new time true n q t own other within h le =
    let same : j ≡ i = eqb-true j i (sym q) in
    let e = own refl in
    let step : bound_from l i j row ≡ bound_from l i (suc j) row = subst (λ m. bound_from l i m row ≡ bound_from l i (suc m) row) (sym same) (bound_own_place l i row (omega (arith, within, same))) in
    let go : bound_from l i j row ≡ bound_from l i k row = step ∙ sym (ap (λ m. bound_from l i m row) n) in
    (omega (arith, e, go, h), omega (arith, e, le))
bound_turn l i j k row least new time false n q t own other within h le =
    let e = other refl in
    let step = bound_next l i j row within (λ s. eqb-false j i (sym q) s) in
    let go : bound_from l i k row ≡ bound_from l i (suc j) row = ap (λ m. bound_from l i m row) n in
    (omega (arith, e, t, step, go, h), omega (arith, e, le))

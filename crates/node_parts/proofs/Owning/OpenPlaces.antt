-- The places of those that are undecided, after one change of the list.
use Rattle.std.proofs.Common.{Bool, List, Some, [], ap, arith, eq-eqb, false, filter, if◌then◌else◌, length, not, refl, slice_get, slice_set, suc, sym, true, zero, ℕ, ◌++◌, ◌+◌, ◌<◌, ◌==◌, ◌∙◌, ◌∷◌, ◌≡◌}
use Rattle.std.proofs.lemmas.Bool.{ne_eqb}
use Rattle.str_model.specs.Views.{Own, is_decided}
use Rattle.node_parts.specs.Owning.{open_from}

-- one that is as decided as before
pub open_same : (n : ℕ) (xs : List Own) (i : ℕ) (x y : Own) → slice_get xs i ≡ Some x → is_decided y.phase ≡ is_decided x.phase
    → open_from n (slice_set xs i y) ≡ open_from n xs
open_same n [] i x y e d = refl
open_same n (z ∷ xs) zero x y e d =
    let is : z ≡ x = cc e in
    ap (λ b. if b then open_from (n + 1) xs else n ∷ open_from (n + 1) xs) (d ∙ ap (λ (z : Own). is_decided z.phase) (sym is))
open_same n (z ∷ xs) (suc i) x y e d = ap (λ l. if is_decided z.phase then l else n ∷ l) (open_same (n + 1) xs i x y e d)

-- none of those from a place on stands before it
none_before : (q n : ℕ) (xs : List Own) → q < n → filter (λ m. not (m == q)) (open_from n xs) ≡ open_from n xs
none_before q n [] l = refl
none_before q n (x ∷ xs) l = by_test (is_decided x.phase) (none_before q (n + 1) xs (omega (arith, l)))
  where
    by_test : (b : Bool) → filter (λ m. not (m == q)) (open_from (n + 1) xs) ≡ open_from (n + 1) xs
        → filter (λ m. not (m == q)) (if b then open_from (n + 1) xs else n ∷ open_from (n + 1) xs) ≡ (if b then open_from (n + 1) xs else n ∷ open_from (n + 1) xs)
    by_test true r = r
    by_test false r =
        ap (λ b. if not b then n ∷ filter (λ m. not (m == q)) (open_from (n + 1) xs) else filter (λ m. not (m == q)) (open_from (n + 1) xs)) (ne_eqb n q (λ e. omega (arith, l, e)))
        ∙ ap (λ l. n ∷ l) r

-- one that is decided leaves
pub open_less : (n q : ℕ) (xs : List Own) (i : ℕ) (x y : Own) → q ≡ n + i → slice_get xs i ≡ Some x → is_decided y.phase ≡ true
    → open_from n (slice_set xs i y) ≡ filter (λ m. not (m == q)) (open_from n xs)
open_less n q [] i x y p e d = absurd (cc e)
open_less n q (z ∷ xs) zero x y p e d =
    ap (λ b. if b then open_from (n + 1) xs else n ∷ open_from (n + 1) xs) d ∙ by_test (is_decided z.phase) (none_before q (n + 1) xs (omega (arith, p)))
  where
    by_test : (b : Bool) → filter (λ m. not (m == q)) (open_from (n + 1) xs) ≡ open_from (n + 1) xs
        → open_from (n + 1) xs ≡ filter (λ m. not (m == q)) (if b then open_from (n + 1) xs else n ∷ open_from (n + 1) xs)
    by_test true r = sym r
    by_test false r =
        sym (ap (λ b. if not b then n ∷ filter (λ m. not (m == q)) (open_from (n + 1) xs) else filter (λ m. not (m == q)) (open_from (n + 1) xs)) (eq-eqb n q (omega (arith, p)))
        ∙ r)
open_less n q (z ∷ xs) (suc i) x y p e d = by_test (is_decided z.phase) (open_less (n + 1) q xs i x y (omega (arith, p)) e d)
  where
    by_test : (b : Bool) → open_from (n + 1) (slice_set xs i y) ≡ filter (λ m. not (m == q)) (open_from (n + 1) xs)
        → (if b then open_from (n + 1) (slice_set xs i y) else n ∷ open_from (n + 1) (slice_set xs i y))
        ≡ filter (λ m. not (m == q)) (if b then open_from (n + 1) xs else n ∷ open_from (n + 1) xs)
    by_test true r = r
    by_test false r =
        ap (λ l. n ∷ l) r
        ∙ sym (ap (λ b. if not b then n ∷ filter (λ m. not (m == q)) (open_from (n + 1) xs) else filter (λ m. not (m == q)) (open_from (n + 1) xs)) (ne_eqb n q (λ e. omega (arith, p, e))))

-- one more that is undecided comes last
pub open_push : (n : ℕ) (xs : List Own) (y : Own) → is_decided y.phase ≡ false → open_from n (xs ++ y ∷ []) ≡ open_from n xs ++ (n + length xs) ∷ []
open_push n [] y d = ap (λ b. if b then [] else n ∷ []) d ∙ ap (λ m. m ∷ []) (omega arith)
open_push n (x ∷ xs) y d = by_test (is_decided x.phase) (open_push (n + 1) xs y d ∙ ap (λ m. open_from (n + 1) xs ++ m ∷ []) (omega arith))
  where
    by_test : (b : Bool) → open_from (n + 1) (xs ++ y ∷ []) ≡ open_from (n + 1) xs ++ (n + length (x ∷ xs)) ∷ []
        → (if b then open_from (n + 1) (xs ++ y ∷ []) else n ∷ open_from (n + 1) (xs ++ y ∷ []))
        ≡ (if b then open_from (n + 1) xs else n ∷ open_from (n + 1) xs) ++ (n + length (x ∷ xs)) ∷ []
    by_test true r = r
    by_test false r = ap (λ l. n ∷ l) r

-- A sum whose steps wrap to 64 bits.
use Rattle.std.proofs.Common.{FitsSigned, List, ap, get_or, length, of_z, pos, sym, take, to_z, ℕ, ℤ, ◌%◌, ◌+◌, ◌+ℤ◌, ◌<◌, ◌^◌, ◌∙◌, ◌≡◌}
use Rattle.std.specs.Int.{int_wrap, w64}
use Rattle.std.specs.List.{fold}
use Rattle.std.proofs.lemmas.Int.{SFits-int_wrap, int_wrap-add_left, int_wrap-add_right, int_wrap_fits, wrapping_add_onto}
use Rattle.std.proofs.lemmas.List.Sums.{fold_more}

-- to wrap twice is to wrap once
pub wrap_twice : (z : ℤ) → int_wrap w64 (int_wrap w64 z) ≡ int_wrap w64 z
wrap_twice z = int_wrap_fits w64 (int_wrap w64 z) (SFits-int_wrap w64 z)

-- the sum so far
abbrev so_far : {X : Type 0} → (X → ℤ) → List X → ℕ → ℤ
so_far f xs i = fold (λ sum x. sum +ℤ f x) (pos 0) (take i xs)

one_more : {X : Type 0} (f : X → ℤ) (xs : List X) (i : ℕ) (d : X) → i < length xs → so_far f xs (i + 1) ≡ so_far f xs i +ℤ f (get_or xs i d)
one_more f xs i d l = fold_more (λ sum x. sum +ℤ f x) (pos 0) xs i d l

-- one more is added
pub wrapped_more : {X : Type 0} (f : X → ℤ) (xs : List X) (i : ℕ) (d : X) (m : ℕ) (b : ℤ) → i < length xs → m < 2 ^ 64 → FitsSigned w64 b
    → to_z w64 m ≡ int_wrap w64 (fold (λ sum x. sum +ℤ f x) (pos 0) (take i xs)) → int_wrap w64 b ≡ int_wrap w64 (f (get_or xs i d))
    → to_z w64 ((m + of_z w64 b) % 2 ^ 64) ≡ int_wrap w64 (fold (λ sum x. sum +ℤ f x) (pos 0) (take (i + 1) xs))
wrapped_more f xs i d m b l p g e h =
    wrapping_add_onto w64 m b p g
    ∙ (ap (λ z. int_wrap w64 (z +ℤ b)) e
    ∙ (int_wrap-add_left w64 (so_far f xs i) b
    ∙ (sym (int_wrap-add_right w64 (so_far f xs i) b)
    ∙ (ap (λ z. int_wrap w64 (so_far f xs i +ℤ z)) h
    ∙ (int_wrap-add_right w64 (so_far f xs i) (f (get_or xs i d)) ∙ ap (int_wrap w64) (sym (one_more f xs i d l)))))))

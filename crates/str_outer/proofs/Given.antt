-- One number more of a clock that gives the numbers of a list, and then its last one.
use Rattle.std.proofs.Common.{◌≡◌, ℕ, ◌+◌, ◌-◌, ◌<◌, ◌≤◌, min, List, [], ◌∷◌, ◌++◌, length, take, replicate, slice_index, sym, ap, ◌∙◌, arith, inl, inr, append-nil, append_assoc}
use Rattle.std.proofs.lemmas.Bool.{cases_lt}
use Rattle.std.proofs.lemmas.List.{take_more, take_all, replicate_more}
use Rattle.str_outer.specs.Clocks.{first_given, last_of}

module _ (xs : List ℕ) where
  early : (m : ℕ) → m ≤ length xs → first_given xs m ≡ take m xs
  early m le =
      let none : m - length xs ≡ 0 = omega (arith, le) in
      ap (λ (k : ℕ). take m xs ++ replicate k (last_of xs)) none ∙ append-nil (take m xs)

  late : (m : ℕ) → length xs ≤ m → first_given xs m ≡ xs ++ replicate (m - length xs) (last_of xs)
  late m le = ap (λ (ys : List ℕ). ys ++ replicate (m - length xs) (last_of xs)) (take_all m xs le)

  within : (n : ℕ) → n < length xs → first_given xs (n + 1) ≡ first_given xs n ++ slice_index xs n ∷ []
  within n lt =
      let one : first_given xs (n + 1) ≡ take n xs ++ slice_index xs n ∷ [] = early (n + 1) (omega (arith, lt)) ∙ take_more xs n 0 lt in
      one ∙ ap (λ (ys : List ℕ). ys ++ slice_index xs n ∷ []) (sym (early n (omega (arith, lt))))

  beyond : (n : ℕ) → length xs ≤ n → first_given xs (n + 1) ≡ first_given xs n ++ last_of xs ∷ []
  beyond n le =
      let more : (n + 1) - length xs ≡ (n - length xs) + 1 = omega (arith, le) in
      let many : List ℕ = replicate (n - length xs) (last_of xs) in
      late (n + 1) (omega (arith, le))
      ∙ (ap (λ (k : ℕ). xs ++ replicate k (last_of xs)) more
      ∙ (ap (λ (ys : List ℕ). xs ++ ys) (sym (replicate_more (n - length xs) (last_of xs)))
      ∙ (sym (append_assoc xs many (last_of xs ∷ []))
      ∙ ap (λ (ys : List ℕ). ys ++ last_of xs ∷ []) (sym (late n le)))))

  -- the next number is the one of its place, or the last
  pub given_next : (n : ℕ) → 0 < length xs → first_given xs (n + 1) ≡ first_given xs n ++ slice_index xs (min n (length xs - 1)) ∷ []
  given_next n some = elim (cases_lt n (length xs)) [
    | inl lt ↦ (let at : n ≡ min n (length xs - 1) = omega (arith, lt, some) in
        within n lt ∙ ap (λ (k : ℕ). first_given xs n ++ slice_index xs k ∷ []) at)
    | inr le ↦ (let at : length xs - 1 ≡ min n (length xs - 1) = omega (arith, le, some) in
        beyond n le ∙ ap (λ (k : ℕ). first_given xs n ++ slice_index xs k ∷ []) at)
  ]

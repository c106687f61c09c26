-- What was read, and what the source told before.
use Rattle.std.proofs.Common.{List, None, Option, Some, ap, append-nil, arith, inl, inr, length, length-append, subst, ℕ, ◌++◌, ◌+◌, ◌∙◌, ◌≡◌, ◌≤◌, ◌⊎◌}
use Rattle.str_base.specs.declared.limits.TheConstants.{INPUT_BYTES}
use Rattle.std.specs.Io.KnownBytes.{Consumes, IsAtEnd}

-- where the source tells its bytes and what was read of it is within the limit, all was read
pub all_read : (left left' : Option (List ℕ)) (bytes text : List ℕ) → left ≡ Some bytes → Consumes left left' text → (length text ≡ INPUT_BYTES + 1) ⊎ IsAtEnd left'
    → length text ≤ INPUT_BYTES → bytes ≡ text
all_read left left' bytes text e c w h = by_rest left' (subst (λ (l : Option (List ℕ)). Consumes l left' text) e c) w
  where
    by_rest : (r : Option (List ℕ)) → Consumes (Some bytes) r text → (length text ≡ INPUT_BYTES + 1) ⊎ IsAtEnd r → bytes ≡ text
    by_rest None k v = absurd k
    by_rest (Some rest) k (inl n) = absurd (omega arith)
    by_rest (Some rest) k (inr e') = k ∙ (ap (λ (xs : List ℕ). text ++ xs) e' ∙ append-nil text)

-- the same where what it tells is within the limit
pub all_told : (left left' : Option (List ℕ)) (bytes text : List ℕ) → left ≡ Some bytes → Consumes left left' text → (length text ≡ INPUT_BYTES + 1) ⊎ IsAtEnd left'
    → length bytes ≤ INPUT_BYTES → bytes ≡ text
all_told left left' bytes text e c w h = by_rest left' (subst (λ (l : Option (List ℕ)). Consumes l left' text) e c) w
  where
    by_rest : (r : Option (List ℕ)) → Consumes (Some bytes) r text → (length text ≡ INPUT_BYTES + 1) ⊎ IsAtEnd r → bytes ≡ text
    by_rest None k v = absurd k
    by_rest (Some rest) k (inl n) = let m : length bytes ≡ length text + length rest = ap length k ∙ length-append text rest in absurd (omega arith)
    by_rest (Some rest) k (inr e') = k ∙ (ap (λ (xs : List ℕ). text ++ xs) e' ∙ append-nil text)

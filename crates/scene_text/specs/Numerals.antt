-- Decimals of numbers of any size.
use Rattle.std.specs.Int.Digits.{digits_of}
use Rattle.std.specs.Prelude.{List, codes, if◌then◌else◌, map, negsuc, pos, suc, ℕ, ℤ, ◌+◌, ◌==◌, ◌∷◌}

-- the decimal of a number of any size: 0, or its digits without a leading zero
unfoldable pub numeral : ℕ → List ℕ
numeral n = if n == 0 then codes "0" else map (λ d. 48 + d) (digits_of 10 n)

-- the same of a signed number, with a minus before one below 0
abbrev pub signed_numeral : ℤ → List ℕ
signed_numeral (pos n) = numeral n
signed_numeral (negsuc n) = 45 ∷ numeral (suc n)

-- Byte strings as digits, two for each byte.
use Rattle.std.specs.Prelude.{Bool, List, [], if◌then◌else◌, nat_le, nat_lt, ℕ, ◌*◌, ◌+◌, ◌-◌, ◌&&◌, ◌||◌, ◌∷◌}

-- a digit from 0 to 9 or from a to f
abbrev pub is_hex : ℕ → Bool
is_hex c = (nat_le 48 c && nat_le c 57) || (nat_le 97 c && nat_le c 102)

-- the number of a digit
abbrev pub digit_number : ℕ → ℕ
digit_number c = if nat_lt c 97 then c - 48 else c - 87

-- the bytes that digits write, two for each byte
abbrev pub paired : List ℕ → List ℕ
paired (high ∷ low ∷ rest) = (digit_number high * 16 + digit_number low) ∷ paired rest
paired _ = []

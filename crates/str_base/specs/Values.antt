-- Values of keys.
use Rattle.std.specs.Int.{int_wrapping_add, w64}
use Rattle.std.specs.Prelude.{Bool, List, [], if◌then◌else◌, int_lt, pos, ℤ, ◌∷◌}
use Rattle.str_base.specs.declared.names.Value.{Value}
use Rattle.str_base.specs.declared.names.Value.TheVariants.{Absent, Num, Text}
use Rattle.str_base.specs.declared.names.Write.{Write}
use Rattle.str_base.specs.Versions.{same_key}

-- the number that a value stands for in a sum and in a need: a missing value and a text stand for 0
abbrev pub number_or_zero : Value → ℤ
number_or_zero Absent = pos 0
number_or_zero (Num n) = n
number_or_zero (Text t) = pos 0

-- the sum of a value and a number, wrapped to 64 bits
abbrev pub sum_with : Value → ℤ → Value
sum_with v n = Num (int_wrapping_add w64 (number_or_zero v) n)

-- the value does not reach the number
abbrev pub is_below : Value → ℤ → Bool
is_below v n = int_lt (number_or_zero v) n

-- into a list of writes, which keeps the order of first writes
abbrev pub set_write : Write → List Write → List Write
set_write w [] = w ∷ []
set_write w (u ∷ us) = if same_key u.key w.key then w ∷ us else u ∷ set_write w us

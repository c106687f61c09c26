-- The keys of a table by name and partition.
use Rattle.std.specs.Prelude.{Bool, List, None, Option, Some, [], if◌then◌else◌, length, nat_le, suc, ℕ, ◌&&◌, ◌∷◌}
use Rattle.str_base.specs.declared.limits.TheConstants.{KEYS}
use Rattle.std.specs.Str.{bytes_eq}
use Rattle.str_base.specs.declared.names.KeyId.{KeyId}
use Rattle.str_base.specs.declared.names.PartId.{PartId}
use Rattle.str_base.specs.declared.names.TextId.{TextId}
use Rattle.str_base.specs.Versions.{same_part}

-- the keys are one
abbrev pub same_pair : List ℕ × PartId → List ℕ × PartId → Bool
same_pair a b = bytes_eq b.0 a.0 && same_part b.1 a.1

-- the place of a key, which is the length where the key is not there
abbrev pub place_of : List ℕ × PartId → List (List ℕ × PartId) → ℕ
place_of a [] = 0
place_of a (b ∷ bs) = if same_pair a b then 0 else suc (place_of a bs)

-- the list with a key, at its end where the key is not there
abbrev pub with_pair : List ℕ × PartId → List (List ℕ × PartId) → List (List ℕ × PartId)
with_pair a [] = a ∷ []
with_pair a (b ∷ bs) = if same_pair a b then b ∷ bs else b ∷ with_pair a bs

-- the number of a key in a table with it; none where that table is too long
abbrev pub number_of : List ℕ × PartId → List (List ℕ × PartId) → Option KeyId
number_of a bs = if nat_le (length (with_pair a bs)) KEYS then Some (record { 0 = place_of a bs }) else None

-- the place of a byte string, which is the length where it is not there
abbrev pub string_place : List ℕ → List (List ℕ) → ℕ
string_place a [] = 0
string_place a (b ∷ bs) = if bytes_eq a b then 0 else suc (string_place a bs)

-- the list with a byte string, at its end where it is not there
abbrev pub with_string : List ℕ → List (List ℕ) → List (List ℕ)
with_string a [] = a ∷ []
with_string a (b ∷ bs) = if bytes_eq a b then b ∷ bs else b ∷ with_string a bs

-- the number of a byte string in a list with it; none where that list is too long
abbrev pub string_number : List ℕ → List (List ℕ) → Option TextId
string_number a bs = if nat_le (length (with_string a bs)) KEYS then Some (record { 0 = string_place a bs }) else None

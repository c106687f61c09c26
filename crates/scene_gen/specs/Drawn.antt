-- What the numbers of a generator give: each number from a state on has a place, counted from 0, and each part of a scene says which
-- numbers it is made of.
use Rattle.std.specs.Prelude.{Bool, List, [], if◌then◌else◌, nat_lt, negsuc, pos, suc, zero, ℕ, ◌%◌, ◌*◌, ◌+◌, ◌∷◌}
use Rattle.rand_pcg.specs.Lcg.{Lcg, increment_of, started}
use Rattle.rand_pcg.specs.Pcg.{multiplier_64, pcg32}
use Rattle.scene_gen.specs.declared.draws.MadeKey.{MadeKey}
use Rattle.scene_gen.specs.declared.draws.MadeOp.{MadeOp}
use Rattle.scene_gen.specs.declared.draws.MadeOp.TheVariants.{Add, Get, Put}
use Rattle.str_scene.specs.declared.names.Event.{Event}
use Rattle.str_scene.specs.declared.names.Event.TheVariants.{Client, Deliver}

-- the generator of a seed, before its first number
unfoldable pub generator : ℕ → Lcg
generator seed = started 64 multiplier_64 seed (increment_of 64 1)

-- the next number, of 32 bits
unfoldable pub number : Lcg → ℕ
number g = (pcg32 g).0

-- the generator after the next number
unfoldable pub next : Lcg → Lcg
next g = (pcg32 g).1

-- the number at a place
abbrev pub nth : ℕ → Lcg → ℕ
nth zero g = number g
nth (suc n) g = nth n (next g)

-- the generator after so many numbers
abbrev pub after : ℕ → Lcg → Lcg
after zero g = g
after (suc n) g = after n (next g)

-- the key at a place: a number for its partition, then one for its digit
abbrev pub key_at : ℕ → Lcg → MadeKey
key_at n g = record { digit = 48 + nth (n + 1) g % 10; part = record { 0 = 1 + nth n g % 6 } }

-- the operations of a transaction of a kind, from left to right, whose kind is the number at place 0
abbrev pub script_of : ℕ → Lcg → List MadeOp
script_of zero g = Get (key_at 1 g) ∷ Get (key_at 3 g) ∷ Get (key_at 5 g) ∷ []
script_of (suc zero) g = Add (key_at 1 g) (negsuc 0) ∷ Add (key_at 3 g) (pos 1) ∷ []
script_of (suc (suc zero)) g = Put (key_at 1 g) (pos (nth 3 g % 100)) ∷ Get (key_at 4 g) ∷ []
script_of (suc (suc (suc _))) g = Get (key_at 1 g) ∷ Add (key_at 1 g) (pos 1) ∷ []

-- how many numbers a transaction of a kind is made of
abbrev pub script_numbers : ℕ → ℕ
script_numbers zero = 7
script_numbers (suc zero) = 5
script_numbers (suc (suc zero)) = 6
script_numbers (suc (suc (suc _))) = 3

-- the kind of a transaction or of an entry
abbrev pub kind : Lcg → ℕ
kind g = nth 0 g % 4

-- the transaction that begins here
abbrev pub script : Lcg → List MadeOp
script g = script_of (kind g) g

-- the generator after it
abbrev pub after_script : Lcg → Lcg
after_script g = after (script_numbers (kind g)) g

-- the kind is that of a delivery
abbrev pub is_delivery : Lcg → Bool
is_delivery g = nat_lt (kind g) 2

-- the entry of the schedule that begins here, and is the one at this place of it, counted from 1
abbrev pub entry : ℕ → Lcg → Event
entry place g =
    if is_delivery g
    then Deliver (1 + nth 1 g % 3000)
    else Client (record { 0 = 1 + nth 1 g % 12 }) (10 * place + nth 2 g % 100)

-- the generator after it
abbrev pub after_entry : Lcg → Lcg
after_entry g = if is_delivery g then after 2 g else after 3 g

-- What clocks tell, and the numbers that a fixed clock gives.
use Rattle.std.specs.Prelude.{◌≡◌, ℕ, ◌-◌, List, [], ◌∷◌, ◌++◌, length, take, replicate, Option, Some, None, option_map, slice_index, ⊤}
use Rattle.str_outer.specs.declared.clocks.FixedClock.{FixedClock}
use Rattle.str_outer.specs.declared.clocks.RealClock.{RealClock}

-- where the numbers given are told afterwards, they were told before, and n has joined them
abbrev pub Gives : Option (List ℕ) → Option (List ℕ) → ℕ → Type 0
Gives old None n = ⊤
Gives None (Some new) n = ⊥
Gives (Some old) (Some new) n = new ≡ old ++ n ∷ []

-- the last of these numbers
abbrev pub last_of : List ℕ → ℕ
last_of numbers = slice_index numbers (length numbers - 1)

-- the first n numbers of a clock that gives these and then the last of them again and again
abbrev pub first_given : List ℕ → ℕ → List ℕ
first_given numbers n = take n numbers ++ replicate (n - length numbers) (last_of numbers)

-- the numbers that a fixed clock gives in order
abbrev pub fixed_numbers : FixedClock → List ℕ
fixed_numbers c = c.numbers.items

-- the numbers that it gave so far, where it counts its calls
abbrev pub fixed_given : FixedClock → Option (List ℕ)
fixed_given c = option_map (λ n. first_given c.numbers.items n) c.calls

-- the last number that the real clock gave, 0 at first
abbrev pub real_last : {R : Type 0} → RealClock R → ℕ
real_last c = c.last

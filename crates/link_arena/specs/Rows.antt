-- Lists of slots, and how links say them.
use Rattle.std.specs.List.{last_or, list_any}
use Rattle.std.specs.Prelude.{Bool, List, None, Option, Some, [], false, if◌then◌else◌, suc, true, zero, ℕ, ◌==◌, ◌∷◌, ◌≡◌}
use Rattle.link_arena.specs.declared.nodes.Ends.{Ends}

-- the slot is in the list
abbrev pub is_in : ℕ → List ℕ → Bool
is_in s ss = list_any (λ t. s == t) ss

-- the slot is the one that is named
abbrev pub is_at : Option ℕ → ℕ → Bool
is_at None s = false
is_at (Some t) s = s == t

-- the first slot of a list, or else this one
abbrev pub first_or : Option ℕ → List ℕ → Option ℕ
first_or x [] = x
first_or x (s ∷ ss) = Some s

-- a slot is put before the one that is named, or else at the end
abbrev pub put_before : Option ℕ → ℕ → List ℕ → List ℕ
put_before t s [] = s ∷ []
put_before t s (u ∷ us) = if is_at t u then s ∷ u ∷ us else u ∷ put_before t s us

-- the list without a slot that is in it once at most
abbrev pub taken : ℕ → List ℕ → List ℕ
taken s [] = []
taken s (u ∷ us) = if s == u then us else u ∷ taken s us

-- no slot, or one of the list
abbrev pub IsPlace : Option ℕ → List ℕ → Type 0
IsPlace None ss = Unit {0}
IsPlace (Some t) ss = is_in t ss ≡ true

-- each slot leads to the one after it, and the last leads to e
abbrev pub Forth : (ℕ → Option ℕ) → List ℕ → Option ℕ → Type 0
Forth f [] e = Unit {0}
Forth f (s ∷ ss) e = (f s ≡ first_or e ss) × Forth f ss e

-- each slot leads to the one before it, and the first leads to b
abbrev pub Back : (ℕ → Option ℕ) → Option ℕ → List ℕ → Type 0
Back f b [] = Unit {0}
Back f b (s ∷ ss) = (f s ≡ b) × Back f (Some s) ss

-- the function with another value at one place, if one is named
abbrev pub over : Option ℕ → Option ℕ → (ℕ → Option ℕ) → ℕ → Option ℕ
over a b f u = if is_at a u then b else f u

-- the first slot that is known of a list
abbrev pub first_of : Option Ends → Option ℕ
first_of None = None
first_of (Some e) = Some e.first

-- the last one
abbrev pub last_of : Option Ends → Option ℕ
last_of None = None
last_of (Some e) = Some e.last

-- the links and the ends say this list
pub record IsRow (after before : ℕ → Option ℕ) (ends : Option Ends) (ss : List ℕ) : Type 0 where
  pub forth : Forth after ss None
  pub back : Back before None ss
  pub first : first_of ends ≡ first_or None ss
  pub last : last_of ends ≡ last_or None ss

-- the slots that are met from one on, at most so many
abbrev pub walk : (ℕ → Option ℕ) → ℕ → Option ℕ → List ℕ
walk f zero s = []
walk f (suc n) None = []
walk f (suc n) (Some s) = s ∷ walk f n (f s)

-- no slot is in the list twice
abbrev pub Once : List ℕ → Type 0
Once [] = Unit {0}
Once (s ∷ ss) = (is_in s ss ≡ false) × Once ss

-- what stands before the place of a new slot
abbrev pub left_of : (ℕ → Option ℕ) → Option Ends → Option ℕ → Option ℕ
left_of before ends None = last_of ends
left_of before ends (Some t) = before t

-- the slot, where nothing stands on that side of it, or else the end as it was
abbrev pub end_or : Option ℕ → ℕ → ℕ → ℕ
end_or None s was = s
end_or (Some u) s was = was

-- the ends with a slot more, between these two
abbrev pub grown : Option Ends → Option ℕ → ℕ → Option ℕ → Ends
grown None left s next = record { first = s; last = s }
grown (Some e) left s next = record { first = end_or left s e.first; last = end_or next s e.last }

-- the ends with the slot between these two taken out
abbrev pub shrunk : Option Ends → Option ℕ → Option ℕ → Option Ends
shrunk None left next = None
shrunk (Some e) None None = None
shrunk (Some e) None (Some r) = Some (record { first = r; last = e.last })
shrunk (Some e) (Some l) None = Some (record { first = e.first; last = l })
shrunk (Some e) (Some l) (Some r) = Some e

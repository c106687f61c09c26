-- The words that are taken.
use Rattle.std.specs.Prelude.{List, [], codes, decimal, ℕ, ◌∷◌, ◌≡◌, ◌≤◌}

-- the program's name
abbrev pub race_name : List ℕ
race_name = codes "strrace"

-- the words are the one number of rounds
pub record AskRounds (words : List (List ℕ)) (count : ℕ) : Type 0 where
  pub least : 1 ≤ count
  pub most : count ≤ 256
  pub same : words ≡ decimal count ∷ []

-- the words are a number of rounds
abbrev pub AskRace : List (List ℕ) → Type 0
AskRace words = (count : ℕ) × AskRounds words count

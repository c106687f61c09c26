-- Words on lists: a fact of each element, and a byte that is nowhere.
use Rattle.std.specs.List.{list_all}
use Rattle.std.specs.Prelude.{Bool, List, [], not, ⊤, ℕ, ◌==◌, ◌∷◌}

-- the fact holds of each element
abbrev pub Each : {X : Type 0} → (X → Type 0) → List X → Type 0
Each P [] = ⊤
Each P (x ∷ xs) = P x × Each P xs

-- no byte of the bytes is this one
abbrev pub is_without : ℕ → List ℕ → Bool
is_without c bytes = list_all (λ b. not (b == c)) bytes

-- What is told on standard error.
use Rattle.std.specs.Io.KnownBytes.{Appends}
use Rattle.std.specs.Prelude.{List, Option, ℕ, ◌⊎◌}
use Rattle.str_outer.specs.Causes.{Rose}
use Rattle.str_outer.specs.Pieces.{AppendsPrefix}

-- standard error grew by the line, or by a prefix of it where one of its counts rose
abbrev pub Tells : List ℕ → Option (List ℕ) → Option (List ℕ) → ℕ → ℕ → ℕ → ℕ → Type 0
Tells line held held' faults faults' wants wants' =
    Appends held held' line ⊎ (AppendsPrefix held held' line × (Rose faults faults' ⊎ Rose wants wants'))

-- What waits to be written.
use Rattle.std.specs.Prelude.{List, Option, ℕ, ◌++◌, ◌≡◌}
use Rattle.std.specs.Io.KnownBytes.{Appends}

-- of the text all was written but for what waits, which is its end
pub record WrittenBut (old new : Option (List ℕ)) (waiting text : List ℕ) : Type 0 where
  pub written : List ℕ
  pub appends : Appends old new written
  pub whole : text ≡ written ++ waiting

-- What stays of the bytes where a writer fails.
use Rattle.std.specs.Prelude.{List, length, take, ℕ, ◌≡◌}

-- the new list begins with the old one
pub record Keeps (old new : List ℕ) : Type 0 where
  pub start : take (length old) new ≡ old

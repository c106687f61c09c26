-- What contracts see of the flags that say which messages were given.
use Rattle.std.specs.Prelude.{Bool, List, Some, length, slice_get, true, ℕ, ◌<◌, ◌≡◌, ◌≢◌, ◌≤◌}

-- the flags in order of the messages, and space for so many more
pub record FlagState : Type 0 where
  pub flags : List Bool
  pub spare : ℕ

-- the first n flags are up
pub record AreUp (flags : List Bool) (n : ℕ) : Type 0 where
  pub within : n ≤ length flags
  pub up : (k : ℕ) → k < n → slice_get flags k ≡ Some true

-- the first flag that is down has n before it; where none is down, n is their number
pub record IsOldest (flags : List Bool) (n : ℕ) : Type 0 where
  pub before : AreUp flags n
  pub down : slice_get flags n ≢ Some true

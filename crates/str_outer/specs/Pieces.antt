-- What a sink has taken of a text.
use Rattle.std.specs.Prelude.{ℕ, List, Option}
use Rattle.std.specs.Io.{StartsWith}
use Rattle.std.specs.Io.KnownBytes.{Appends}

-- known bytes grow by a prefix of the text
pub record AppendsPrefix (old new : Option (List ℕ)) (text : List ℕ) : Type 0 where
  pub piece : List ℕ
  pub is_prefix : StartsWith text piece
  pub appends : Appends old new piece

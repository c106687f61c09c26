-- Where each text of a list stands in it.
use Rattle.std.specs.Map.{lookup}
use Rattle.std.specs.Prelude.{List, None, Option, Some, map, slice_get, ℕ, ◌≡◌, ◌≢◌}
use Rattle.std.specs.Str.{bytes_eq}
use Rattle.str_scene.specs.Scenes.{KeyTable}
use Rattle.str_scene.specs.Spelling.{name_spelled, text_spelled}

-- the number of a text
abbrev pub place_in : List (List ℕ × ℕ) → List ℕ → Option ℕ
place_in places text = lookup (λ t. bytes_eq text t) places

-- each text of the list has the number of a place where it stands, and no other text has a number
pub record ArePlaces (texts : List (List ℕ)) (places : List (List ℕ × ℕ)) : Type 0 where
  pub stands : (text : List ℕ) (i : ℕ) → place_in places text ≡ Some i → slice_get texts i ≡ Some text
  pub found : (i : ℕ) (text : List ℕ) → slice_get texts i ≡ Some text → place_in places text ≢ None

-- the keys of a table as text
abbrev pub key_texts : KeyTable → List (List ℕ)
key_texts table = map (λ key. name_spelled (Some key)) table.names

-- its byte strings as text
abbrev pub byte_texts : KeyTable → List (List ℕ)
byte_texts table = map (λ bytes. text_spelled (Some bytes)) table.texts

-- How far a text has been read.
use Rattle.std.specs.Prelude.{List, Some, flat_map, length, map, slice_get, ℕ, ◌≡◌}
use Rattle.scene_text.specs.declared.lines.Line.{Line}
use Rattle.scene_text.specs.LineTexts.{IsForm, line_text}
use Rattle.scene_text.specs.Taking.{State, at_start, scene_limits, take_lines}
use Rattle.scene_text.specs.Taking.Taken.{Now}
use Rattle.str_scene.specs.Spelling.{ended}

-- the bytes are the text of so many lines of the form, which are taken to the state
pub record Reached (text : List ℕ) (count : ℕ) (s : State) : Type 0 where
  pub lines : List Line
  pub forms : (i : ℕ) (l : Line) → slice_get lines i ≡ Some l → IsForm l
  pub number : length lines ≡ count
  pub spelled : text ≡ flat_map ended (map line_text lines)
  pub lead : take_lines scene_limits at_start lines ≡ Now s

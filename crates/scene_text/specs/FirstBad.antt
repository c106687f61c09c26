-- The first bad line of a text that is no scene's, and why it is bad.
use Rattle.std.specs.List.{list_all}
use Rattle.str_base.specs.declared.limits.TheConstants.{NODES}
use Rattle.std.specs.Prelude.{List, Some, [], length, map, not, slice_get, suc, take, true, ℕ, ◌++◌, ◌+◌, ◌==◌, ◌≡◌, ◌≤◌, ◌≢◌, flat_map, ◌⊎◌}
use Rattle.scene_text.specs.declared.lines.Line.{Line}
use Rattle.scene_text.specs.LineOrder.{Place, place_after}
use Rattle.scene_text.specs.LineTexts.{IsForm, line_text}
use Rattle.scene_text.specs.SceneLines.{lines_of}
use Rattle.str_base.specs.declared.names.NodeId.{NodeId}
use Rattle.str_scene.specs.declared.names.Event.{Event}
use Rattle.str_scene.specs.declared.names.Op.{Op}
use Rattle.str_scene.specs.SceneLimits.{Exists, IsEvent, IsOp, IsRow, IsScene, IsTable}
use Rattle.str_scene.specs.Scenes.{Scene, Session}
use Rattle.str_scene.specs.declared.faults.Why.{Why}
use Rattle.str_scene.specs.declared.faults.Why.TheVariants.{Count, Cut, Form, Range}
use Rattle.str_scene.specs.Spelling.{ended, scene_lines}

-- the bytes are these lines, each with its line feed, and a tail without one
pub record IsSplit (bytes : List ℕ) (lines : List (List ℕ)) (tail : List ℕ) : Type 0 where
  pub parts : bytes ≡ flat_map ended lines ++ tail
  pub without_feed : (i : ℕ) (line : List ℕ) → slice_get lines i ≡ Some line → list_all (λ b. not (b == 10)) line ≡ true
  pub tail_without : list_all (λ b. not (b == 10)) tail ≡ true

-- the first lines of a scene's text
pub record IsStart (lines : List (List ℕ)) : Type 0 where
  pub scene : Scene
  pub rest : List (List ℕ)
  pub is_scene : IsScene scene
  pub text : scene_lines scene ≡ lines ++ rest

-- all lines of a scene's text
pub record IsWhole (lines : List (List ℕ)) : Type 0 where
  pub scene : Scene
  pub is_scene : IsScene scene
  pub text : scene_lines scene ≡ lines

-- lines of the form, in their order, whatever their numbers are
pub record IsFormed (lines : List (List ℕ)) : Type 0 where
  pub read : List Line
  pub place : Place
  pub forms : (i : ℕ) (l : Line) → slice_get read i ≡ Some l → IsForm l
  pub spelled : map line_text read ≡ lines
  pub order : place_after read ≡ Some place

-- a session whose node exists and whose scripts have an operation each, all in range, of whatever number
pub record IsRangedSession (scene : Scene) (s : Session) : Type 0 where
  pub node : Exists s.node.0 scene.nodes
  pub some : (j : ℕ) (ops : List Op) → slice_get s.txs j ≡ Some ops → 1 ≤ length ops
  pub ops : (j i : ℕ) (ops : List Op) (op : Op) → slice_get s.txs j ≡ Some ops → slice_get ops i ≡ Some op → IsOp scene.version scene.keys op

-- a scene but for the limits on how many of each there may be
pub record IsRanged (scene : Scene) : Type 0 where
  pub version : (scene.version ≡ 1) ⊎ (scene.version ≡ 2)
  pub nodes : Exists scene.nodes NODES
  pub parts : 1 ≤ length scene.parts
  pub rows : (p : ℕ) (row : List NodeId) → slice_get scene.parts p ≡ Some row → IsRow scene.nodes row
  pub table : IsTable scene
  pub sessions : (i : ℕ) (s : Session) → slice_get scene.sessions i ≡ Some s → IsRangedSession scene s
  pub events : (i : ℕ) (e : Event) → slice_get scene.schedule i ≡ Some e → IsEvent scene e

-- the first lines of the text of such a scene, whose numbers are spelled however great they are: all numbers of the lines are in range
pub record IsInRange (lines : List (List ℕ)) : Type 0 where
  pub scene : Scene
  pub rest : List (List ℕ)
  pub ranged : IsRanged scene
  pub text : map line_text (lines_of scene) ≡ lines ++ rest

-- the line is cut: no line feed ends it, or it is missing
pub record IsCut (lines : List (List ℕ)) (tail : List ℕ) (line : ℕ) : Type 0 where
  pub last : line ≡ length lines + 1
  pub start : IsStart lines
  pub cut : (tail ≢ []) ⊎ (¬ IsWhole lines)

-- the line is the first that makes the lines no first lines of a scene's text
pub record IsFirstBadLine (lines : List (List ℕ)) (line : ℕ) : Type 0 where
  pub before : ℕ
  pub number : line ≡ suc before
  pub there : line ≤ length lines
  pub start : IsStart (take before lines)
  pub bad : ¬ IsStart (take line lines)

-- why the line is bad: the first that applies of a line cut off, a line that is not of the form or stands out of order, a number
-- out of its range, and one more than there may be
abbrev pub IsBadFor : List (List ℕ) → List ℕ → ℕ → Why → Type 0
IsBadFor lines tail line Cut = IsCut lines tail line
IsBadFor lines tail line Form = IsFirstBadLine lines line × (¬ IsFormed (take line lines))
IsBadFor lines tail line Range = IsFirstBadLine lines line × IsFormed (take line lines) × (¬ IsInRange (take line lines))
IsBadFor lines tail line Count = IsFirstBadLine lines line × IsFormed (take line lines) × IsInRange (take line lines)

-- the first bad line of the bytes, and why it is bad
pub record FirstBad (bytes : List ℕ) (line : ℕ) (why : Why) : Type 0 where
  pub lines : List (List ℕ)
  pub tail : List ℕ
  pub split : IsSplit bytes lines tail
  pub bad : IsBadFor lines tail line why

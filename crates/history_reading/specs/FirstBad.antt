-- The first bad line of a text that is no history's, and why it is bad.
use Rattle.history_reading.specs.Histories.{IsEnding, IsHistory, history_lines}
use Rattle.history_reading.specs.HistoryLines.{AnyAnswer, IsForm, answer_text, counts_text}
use Rattle.history_reading.specs.HistoryRanges.{IsOfScene}
use Rattle.history_reading.specs.declared.reading.HistoryFault.{HistoryFault}
use Rattle.history_reading.specs.declared.reading.HistoryFault.TheVariants.{Bad, Memory}
use Rattle.scene_text.specs.FirstBad.{IsFormed as IsFormedScene, IsInRange as IsInRangeScene, IsSplit}
use Rattle.std.specs.Prelude.{List, [], length, map, suc, take, ℕ, ⊤, ◌++◌, ◌+◌, ◌≡◌, ◌≢◌, ◌≤◌, ◌⊎◌}
use Rattle.str_model.specs.Lines.{Counts}
use Rattle.str_model.specs.declared.messages.Answer.{Answer}
use Rattle.str_scene.specs.Lists.{Each}
use Rattle.str_scene.specs.SceneLimits.{IsScene}
use Rattle.str_scene.specs.Scenes.{Scene}
use Rattle.str_scene.specs.Spelling.{scene_lines}
use Rattle.str_scene.specs.declared.faults.Why.{Why}
use Rattle.str_scene.specs.declared.faults.Why.TheVariants.{Count, Cut, Form, Range}

-- the first lines of a history
pub record IsStart (lines : List (List ℕ)) : Type 0 where
  pub scene : Scene
  pub answers : List Answer
  pub counts : Counts
  pub rest : List (List ℕ)
  pub is_history : IsHistory scene answers counts
  pub text : history_lines scene answers counts ≡ lines ++ rest

-- all lines of a history
pub record IsWhole (lines : List (List ℕ)) : Type 0 where
  pub scene : Scene
  pub answers : List Answer
  pub counts : Counts
  pub is_history : IsHistory scene answers counts
  pub text : history_lines scene answers counts ≡ lines

-- after all lines of a scene answers and at most one end line, of the form, whatever their numbers are
pub record AreFormedAnswers (lines : List (List ℕ)) : Type 0 where
  pub scene : Scene
  pub is_scene : IsScene scene
  pub answers : List AnyAnswer
  pub ends : List Counts
  pub forms : Each IsForm answers
  pub one_end : length ends ≤ 1
  pub text : scene_lines scene ++ (map answer_text answers ++ map counts_text ends) ≡ lines

-- lines of the form, in their order, whatever their numbers are
abbrev pub IsFormed : List (List ℕ) → Type 0
IsFormed lines = IsFormedScene lines ⊎ AreFormedAnswers lines

-- the first lines of a scene with answers that name what it has, of whatever number and with gets of whatever number, and an end line
-- that counts them
pub record AreRangedAnswers (lines : List (List ℕ)) : Type 0 where
  pub scene : Scene
  pub is_scene : IsScene scene
  pub answers : List Answer
  pub counts : Counts
  pub rest : List (List ℕ)
  pub each : Each (IsOfScene scene) answers
  pub ending : IsEnding answers counts
  pub text : history_lines scene answers counts ≡ lines ++ rest

-- all numbers, keys and byte strings of the lines are in range
abbrev pub IsInRange : List (List ℕ) → Type 0
IsInRange lines = IsInRangeScene lines ⊎ AreRangedAnswers lines

-- the line is cut: no line feed ends it, or it is missing
pub record IsCut (lines : List (List ℕ)) (tail : List ℕ) (line : ℕ) : Type 0 where
  pub last : line ≡ length lines + 1
  pub start : IsStart lines
  pub cut : (tail ≢ []) ⊎ (¬ IsWhole lines)

-- the line is the first that makes the lines no first lines of a history
pub record IsFirstBadLine (lines : List (List ℕ)) (line : ℕ) : Type 0 where
  pub before : ℕ
  pub number : line ≡ suc before
  pub there : line ≤ length lines
  pub start : IsStart (take before lines)
  pub bad : ¬ IsStart (take line lines)

-- why the line is bad: the first that applies of a line cut off, a line that is not of the form or stands out of order, a number, key or
-- byte string out of its range, and one more than there may be
abbrev pub IsBadFor : List (List ℕ) → List ℕ → ℕ → Why → Type 0
IsBadFor lines tail line Cut = IsCut lines tail line
IsBadFor lines tail line Form = IsFirstBadLine lines line × (¬ IsFormed (take line lines))
IsBadFor lines tail line Range = IsFirstBadLine lines line × IsFormed (take line lines) × (¬ IsInRange (take line lines))
IsBadFor lines tail line Count = IsFirstBadLine lines line × IsFormed (take line lines) × IsInRange (take line lines)

-- the first bad line of the bytes, and why it is bad
pub record FirstBad (bytes : List ℕ) (line : ℕ) (why : Why) : Type 0 where
  pub lines : List (List ℕ)
  pub tail : List ℕ
  pub split : IsSplit bytes lines tail
  pub bad : IsBadFor lines tail line why

-- the fault names the first bad line of the text; want of memory says nothing of it
abbrev pub IsFaultOf : List ℕ → HistoryFault → Type 0
IsFaultOf bytes (Bad line why) = FirstBad bytes line why
IsFaultOf bytes Memory = ⊤

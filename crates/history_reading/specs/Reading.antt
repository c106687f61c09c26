-- What a reader makes of the lines of a history.
use Rattle.history_reading.specs.Histories.{AreAnswers, HasFewGets, IsEnding, commits_in, gets_of}
use Rattle.history_reading.specs.HistoryLines.{counts_text, spelled_answer}
use Rattle.history_reading.specs.Parts.{SpellsAnswer, SpellsNoAnswer, SpellsWideAnswer}
use Rattle.history_reading.specs.declared.reading.Answers.{Answers}
use Rattle.history_reading.specs.declared.reading.HistoryFault.{HistoryFault}
use Rattle.history_reading.specs.declared.reading.HistoryFault.TheVariants.{Bad, Memory as NoMemory}
use Rattle.scene_text.specs.FirstBad.{IsSplit}
use Rattle.scene_text.specs.declared.read.TextFault.{TextFault}
use Rattle.scene_text.specs.declared.read.TextFault.TheVariants.{Bad as TBad, Memory as TMemory}
use Rattle.str_scene.specs.declared.faults.Why.TheVariants.{Count as WCount, Form as WForm, Range as WRange}
use Rattle.std.specs.Prelude.{List, [], codes, false, flat_map, length, map, take, true, ℕ, ⊤, ◌++◌, ◌+◌, ◌<◌, ◌∷◌, ◌≡◌, ◌≢◌, ◌≤◌, ◌⊎◌}
use Rattle.str_base.specs.declared.limits.TheConstants.{OPERATIONS, TRANSACTIONS}
use Rattle.str_model.specs.Lines.{Counts}
use Rattle.str_model.specs.declared.messages.Answer.{Answer}
use Rattle.str_scene.specs.Lists.{Each}
use Rattle.str_scene.specs.Scenes.{Scene}
use Rattle.str_scene.specs.Spelling.{ended, scene_lines, spelling}
use Rattle.str_scene.specs.declared.faults.SceneFault.{SceneFault}
use Rattle.str_scene.specs.declared.faults.SceneFault.TheVariants.{Count, Form, Memory, Range}

-- a line that isn't a scene's last
abbrev pub IsNoEnd : List ℕ → Type 0
IsNoEnd line = line ≢ codes "end"

-- the lines are those up to the first that may be a scene's last
pub record EndsThere (lines : List (List ℕ)) (tail : List ℕ) : Type 0 where
  pub before : List (List ℕ)
  pub none : Each IsNoEnd before
  pub lines_are : lines ≡ before ++ codes "end" ∷ []
  pub no_tail : tail ≡ []

-- the first bytes of the text are so many lines, up to the first that may be a scene's last, or the whole text where there is none
pub record IsHead (text : List ℕ) (start count : ℕ) : Type 0 where
  pub lines : List (List ℕ)
  pub tail : List ℕ
  pub split : IsSplit (take start text) lines tail
  pub number : length lines ≡ count
  pub ends : EndsThere lines tail ⊎ ((length text ≤ start) × Each IsNoEnd lines)

-- the text is the scene's, and after it so many lines in all of these answers and end lines
pub record AreRead (scene : Scene) (text : List ℕ) (count : ℕ) (answers : List Answer) (ends : List Counts) : Type 0 where
  pub spelled : text ≡ spelling scene ++ flat_map ended (map (spelled_answer scene.keys) answers ++ map counts_text ends)
  pub number : count ≡ length (scene_lines scene) + (length answers + length ends)
  pub answers_are : AreAnswers scene answers
  pub ending : Each (IsEnding answers) ends
  pub one_end : length ends ≤ 1

-- how far the lines have been read
pub record IsReached (scene : Scene) (text : List ℕ) (count : ℕ) (s : Answers) : Type 0 where
  pub ends : List Counts
  pub are_read : AreRead scene text count s.list.items ends
  pub commits : s.commits ≡ commits_in s.list.items
  pub is_ended : s.is_ended ≡ false → ends ≡ []
  pub has_ended : s.is_ended ≡ true → length ends ≡ 1

-- the commits are counted, of at most 1,024 answers
pub record IsCounted (s : Answers) : Type 0 where
  pub few : length s.list.items ≤ TRANSACTIONS
  pub commits : s.commits ≡ commits_in s.list.items

-- the line is an answer's, which is taken
pub record TakesAnswer (scene : Scene) (text : List ℕ) (s t : Answers) : Type 0 where
  pub answer : Answer
  pub spells : SpellsAnswer scene text answer
  pub few_gets : HasFewGets answer
  pub room : length s.list.items < TRANSACTIONS
  pub list : t.list.items ≡ s.list.items ++ answer ∷ []
  pub commits : t.commits ≡ commits_in t.list.items
  pub not_ended : t.is_ended ≡ false

-- the line is the end line
pub record TakesEnd (text : List ℕ) (s t : Answers) : Type 0 where
  pub counts : Counts
  pub text_is : text ≡ counts_text counts
  pub ending : IsEnding s.list.items counts
  pub list : t.list.items ≡ s.list.items
  pub commits : t.commits ≡ s.commits
  pub ended : t.is_ended ≡ true

-- the line is taken
abbrev pub TakesLine : Scene → List ℕ → Answers → Answers → Type 0
TakesLine scene text s t = (s.is_ended ≡ false) × (TakesAnswer scene text s t ⊎ TakesEnd text s t)

-- the line is no end line
abbrev pub SpellsNoCounts : List ℕ → Type 0
SpellsNoCounts text = (c : Counts) → ¬ (text ≡ counts_text c)

-- the line is an end line that does not count these answers, or has a number of more than 64 bits
pub record SpellsWideCounts (answers : List Answer) (text : List ℕ) : Type 0 where
  pub counts : Counts
  pub text_is : text ≡ counts_text counts
  pub wide : ¬ IsEnding answers counts

-- the line is an answer's of the scene, which has too many gets, or for which there is no room
pub record IsOneMore (scene : Scene) (text : List ℕ) (answers : List Answer) : Type 0 where
  pub answer : Answer
  pub spells : SpellsAnswer scene text answer
  pub full : (OPERATIONS < gets_of answer.outcome) ⊎ (TRANSACTIONS ≤ length answers)

-- why the line is refused after these answers, where no end line has come
abbrev pub IsRefused : Scene → List ℕ → List Answer → SceneFault → Type 0
IsRefused scene text answers Form = SpellsNoAnswer text × SpellsNoCounts text
IsRefused scene text answers Range = SpellsWideAnswer scene text ⊎ SpellsWideCounts answers text
IsRefused scene text answers Count = IsOneMore scene text answers
IsRefused scene text answers Memory = ⊤

-- why it is refused that begins as an end line
abbrev pub IsBadEnding : List ℕ → List Answer → SceneFault → Type 0
IsBadEnding text answers Form = SpellsNoCounts text
IsBadEnding text answers Range = SpellsWideCounts answers text
IsBadEnding text answers Count = ⊥
IsBadEnding text answers Memory = ⊤

-- why it is refused that does not
abbrev pub IsBadOne : Scene → List ℕ → List Answer → SceneFault → Type 0
IsBadOne scene text answers Form = SpellsNoAnswer text
IsBadOne scene text answers Range = SpellsWideAnswer scene text
IsBadOne scene text answers Count = IsOneMore scene text answers
IsBadOne scene text answers Memory = ⊤

-- any line is refused after the end line
abbrev pub IsAfterEnd : SceneFault → Type 0
IsAfterEnd Form = ⊤
IsAfterEnd Range = ⊥
IsAfterEnd Count = ⊥
IsAfterEnd Memory = ⊤

-- why the line is bad
abbrev pub IsBadLine : Scene → List ℕ → Answers → SceneFault → Type 0
IsBadLine scene text s f = ((s.is_ended ≡ true) × IsAfterEnd f) ⊎ ((s.is_ended ≡ false) × IsRefused scene text s.list.items f)

-- the fault of a scene's text, as one of the history's
abbrev pub scene_fault : TextFault → HistoryFault
scene_fault (TBad line why) = Bad line why
scene_fault TMemory = NoMemory

-- the fault of a line, as one of the text
abbrev pub fault_at : ℕ → SceneFault → HistoryFault
fault_at line Form = Bad line WForm
fault_at line Range = Bad line WRange
fault_at line Count = Bad line WCount
fault_at line Memory = NoMemory

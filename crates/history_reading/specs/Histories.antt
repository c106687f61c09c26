-- Histories: a scene's text, and after it the answers and the end line of a run of that scene.
use Rattle.std.specs.List.{count_by}
use Rattle.std.specs.Prelude.{List, [], flat_map, length, map, not, ℕ, ◌++◌, ◌<◌, ◌^◌, ◌∷◌, ◌≡◌, ◌≤◌}
use Rattle.history_reading.specs.HistoryLines.{counts_text, spelled_answer}
use Rattle.history_reading.specs.HistoryRanges.{IsOfScene}
use Rattle.str_base.specs.declared.limits.TheConstants.{OPERATIONS, TRANSACTIONS}
use Rattle.str_model.specs.Lines.{Counts, answer_line, end_line, is_commit}
use Rattle.str_model.specs.declared.messages.Answer.{Answer}
use Rattle.str_model.specs.declared.messages.Outcome.{Outcome}
use Rattle.str_model.specs.declared.messages.Outcome.TheVariants.{Aborted, Committed}
use Rattle.str_scene.specs.Lists.{Each}
use Rattle.str_scene.specs.SceneLimits.{IsScene}
use Rattle.str_scene.specs.Scenes.{Scene}
use Rattle.str_scene.specs.Spelling.{scene_lines, spelling}

-- how many of the answers are commits, and how many are aborts
abbrev pub commits_in : List Answer → ℕ
commits_in answers = count_by (λ a. is_commit a.outcome) answers

abbrev pub aborts_in : List Answer → ℕ
aborts_in answers = count_by (λ a. not (is_commit a.outcome)) answers

-- the numbers of the end line: how many of the answers are commits and how many aborts, and three numbers of 64 bits
pub record IsEnding (answers : List Answer) (counts : Counts) : Type 0 where
  pub commits : counts.commits ≡ commits_in answers
  pub aborts : counts.aborts ≡ aborts_in answers
  pub held : counts.held < 2 ^ 64
  pub unbegun : counts.unbegun < 2 ^ 64
  pub messages : counts.messages < 2 ^ 64

-- how many gets an outcome has
abbrev pub gets_of : Outcome → ℕ
gets_of (Committed fc gets) = length gets
gets_of (Aborted cause) = 0

-- at most 16 gets
abbrev pub HasFewGets : Answer → Type 0
HasFewGets a = gets_of a.outcome ≤ OPERATIONS

-- at most 1,024 answers that name what the scene has, with at most 16 gets each
pub record AreAnswers (scene : Scene) (answers : List Answer) : Type 0 where
  pub each : Each (IsOfScene scene) answers
  pub few : length answers ≤ TRANSACTIONS
  pub few_gets : Each HasFewGets answers

-- a history of a scene: answers, and the numbers of its end line
pub record IsHistory (scene : Scene) (answers : List Answer) (counts : Counts) : Type 0 where
  pub is_scene : IsScene scene
  pub answers_are : AreAnswers scene answers
  pub ending : IsEnding answers counts

-- its lines, without their line feeds
abbrev pub history_lines : Scene → List Answer → Counts → List (List ℕ)
history_lines scene answers counts = scene_lines scene ++ (map (spelled_answer scene.keys) answers ++ counts_text counts ∷ [])

-- its text
unfoldable pub history_spelling : Scene → List Answer → Counts → List ℕ
history_spelling scene answers counts = spelling scene ++ (flat_map (answer_line scene.keys) answers ++ end_line counts)

-- the bytes are the text of a history of this scene and these answers, with some numbers of the end line
pub record IsHistoryText (bytes : List ℕ) (scene : Scene) (answers : List Answer) : Type 0 where
  pub counts : Counts
  pub is_history : IsHistory scene answers counts
  pub spelled : bytes ≡ history_spelling scene answers counts

-- a text is of one scene and one list of answers at most
abbrev pub OneHistory : Type 0
OneHistory = (bytes : List ℕ) (s t : Scene) (a b : List Answer) → IsHistoryText bytes s a → IsHistoryText bytes t b → (s ≡ t) × (a ≡ b)

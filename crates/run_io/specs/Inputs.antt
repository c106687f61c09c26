-- What is read: a scene, as its text or as its frames, or a history; and which bytes are refused.
use Rattle.history_reading.specs.FirstBad.{FirstBad as FirstBadHistory}
use Rattle.history_reading.specs.Histories.{IsHistoryText}
use Rattle.request_frame.specs.FirstBad.{FirstBad as FirstBadFrame}
use Rattle.request_frame.specs.Spelling.{IsFrames}
use Rattle.run_io.specs.declared.inputs.Form.{Form}
use Rattle.run_io.specs.declared.inputs.Form.TheVariants.{Frames, History, Text}
use Rattle.scene_text.specs.FirstBad.{FirstBad as FirstBadLine}
use Rattle.std.specs.Io.KnownBytes.{Consumes, IsAtEnd}
use Rattle.std.specs.Prelude.{List, Option, Some, codes, decimal, length, ℕ, ⊤, ◌++◌, ◌≡◌, ◌≤◌, ◌⊎◌}
use Rattle.str_model.specs.declared.messages.Answer.{Answer}
use Rattle.str_outer.specs.Causes.{Rose}
use Rattle.str_scene.specs.SceneLimits.{IsScene}
use Rattle.str_scene.specs.Scenes.{Scene}
use Rattle.str_scene.specs.Spelling.{IsText}
use Rattle.str_scene.specs.declared.faults.Why.{Why}
use Rattle.str_scene.specs.declared.faults.Why.TheVariants.{Count, Cut, Form as NoForm, Range}
use Rattle.top_status.specs.declared.failure.Failure.{Failure}
use Rattle.top_status.specs.declared.failure.Failure.TheVariants.{Memory, Read, Refused as Refusal}

-- the bytes are the spelling of the scene in a form, or that of a history of it
abbrev pub Spells : Form → List ℕ → Scene → Type 0
Spells Text bytes scene = IsText bytes scene
Spells Frames bytes scene = IsFrames bytes scene
Spells History bytes scene = (answers : List Answer) × IsHistoryText bytes scene answers

-- the bytes are the spelling of this scene, and are not too long to be read
pub record IsSpelled (form : Form) (bytes : List ℕ) (scene : Scene) : Type 0 where
  pub short : length bytes ≤ 1048576
  pub scene_ : IsScene scene
  pub spelled : Spells form bytes scene

-- the source gave bytes, to its end, that spell this scene
pub record HasRead (form : Form) (left left' : Option (List ℕ)) (scene : Scene) : Type 0 where
  pub bytes : List ℕ
  pub consumed : Consumes left left' bytes
  pub ended : IsAtEnd left'
  pub spelled : IsSpelled form bytes scene

-- the source gave bytes, to its end, that are not too long to be read and spell a history of this scene and these answers
pub record HasHistory (left left' : Option (List ℕ)) (scene : Scene) (answers : List Answer) : Type 0 where
  pub bytes : List ℕ
  pub consumed : Consumes left left' bytes
  pub ended : IsAtEnd left'
  pub short : length bytes ≤ 1048576
  pub spelled : IsHistoryText bytes scene answers

-- the source tells bytes that are the spelling of a scene, or of a history
abbrev pub TellsSpelling : Form → Option (List ℕ) → Type 0
TellsSpelling form left = (bytes : List ℕ) × (scene : Scene) × (left ≡ Some bytes) × IsSpelled form bytes scene

-- the source tells bytes that are no such spelling
abbrev pub TellsNoSpelling : Form → Option (List ℕ) → Type 0
TellsNoSpelling form left = (bytes : List ℕ) × (left ≡ Some bytes) × ((scene : Scene) → ¬ IsSpelled form bytes scene)

-- the first bad line of a text, and of a history, is the one of this number; the first bad frame is the one that begins at this place
abbrev pub IsFirstBad : Form → List ℕ → ℕ → Why → Type 0
IsFirstBad Text bytes line why = FirstBadLine bytes line why
IsFirstBad Frames bytes place why = FirstBadFrame bytes place why
IsFirstBad History bytes line why = FirstBadHistory bytes line why

-- what is said of bytes that are too many
abbrev pub too_many : List ℕ
too_many = codes "more than 1048576 bytes"

-- what stands before the number of a bad line, and before the place of a bad frame
abbrev pub place_said : Form → List ℕ
place_said Text = codes "line "
place_said Frames = codes "byte "
place_said History = codes "line "

-- why it is bad, as it stands behind the number
abbrev pub why_said : Why → List ℕ
why_said Cut = codes ": cut"
why_said NoForm = codes ": form"
why_said Range = codes ": range"
why_said Count = codes ": count"

-- what is said of a bad line or frame
abbrev pub bad_said : Form → ℕ → Why → List ℕ
bad_said form place why = place_said form ++ decimal place ++ why_said why

-- the bytes are refused, and this is said of them: they are too many, or have a bad line or frame
pub data IsRefusal (form : Form) (bytes said : List ℕ) : Type 0 where
  long : length bytes ≡ 1048577 → said ≡ too_many → IsRefusal form bytes said
  bad : (place : ℕ) (why : Why) → length bytes ≤ 1048576 → IsFirstBad form bytes place why → said ≡ bad_said form place why → IsRefusal form bytes said

-- the source was read to its end or to 1,048,577 bytes, and what was read is refused with these words
pub record HasRefused (form : Form) (left left' : Option (List ℕ)) (said : List ℕ) : Type 0 where
  pub bytes : List ℕ
  pub consumed : Consumes left left' bytes
  pub whole : (length bytes ≡ 1048577) ⊎ IsAtEnd left'
  pub refusal : IsRefusal form bytes said

-- why bytes are refused
abbrev pub RefusesInput : Form → List ℕ → Failure → Type 0
RefusesInput form bytes (Refusal said) = IsRefusal form bytes said.items
RefusesInput form bytes Memory = ⊤
RefusesInput form bytes _ = ⊥

-- why nothing came of what was read: it is refused, the source's count of faults rose, or memory was wanting
abbrev pub InputFails : Form → Option (List ℕ) → Option (List ℕ) → ℕ → ℕ → Failure → Type 0
InputFails form left left' faults faults' (Refusal said) = HasRefused form left left' said.items
InputFails form left left' faults faults' Read = Rose faults faults'
InputFails form left left' faults faults' Memory = ⊤
InputFails form left left' faults faults' _ = ⊥

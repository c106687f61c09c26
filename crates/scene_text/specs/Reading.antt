-- What a reader makes of a line, and of a text.
use Rattle.std.specs.Prelude.{List, false, length, true, ℕ, ⊤, ◌≡◌, ◌≤◌, ◌⊎◌, None, Option, Some}
use Rattle.str_base.specs.declared.limits.TheConstants.{OPERATIONS}
use Rattle.scene_text.specs.FirstBad.{FirstBad}
use Rattle.scene_text.specs.LineTexts.{IsForm, line_text}
use Rattle.scene_text.specs.Reaching.{Reached}
use Rattle.scene_text.specs.Taking.{State, is_up_to, scene_limits, take_line}
use Rattle.scene_text.specs.Taking.Taken.{Now, Refused}
use Rattle.scene_text.specs.declared.lines.Line.{Line}
use Rattle.scene_text.specs.declared.lines.Line.TheVariants.{Version as LVersion}
use Rattle.scene_text.specs.declared.read.TextFault.{TextFault}
use Rattle.scene_text.specs.declared.read.TextFault.TheVariants.{Bad, Memory as NoMemory}
use Rattle.str_base.specs.declared.names.PartId.{PartId}
use Rattle.str_scene.specs.declared.faults.SceneFault.{SceneFault}
use Rattle.str_scene.specs.declared.faults.SceneFault.TheVariants.{Count, Form, Memory, Range}
use Rattle.str_scene.specs.declared.faults.Why.{Why}
use Rattle.str_scene.specs.declared.faults.Why.TheVariants.{Count as WCount, Form as WForm, Range as WRange}

-- the lines of some text lead to the state
pub record IsReached (s : State) : Type 0 where
  pub text : List ℕ
  pub count : ℕ
  pub reached : Reached text count s

-- the line is refused for this; want of memory says nothing of it
abbrev pub IsRefusedFor : State → Line → SceneFault → Type 0
IsRefusedFor s l Form = take_line scene_limits s l ≡ Refused WForm
IsRefusedFor s l Range = take_line scene_limits s l ≡ Refused WRange
IsRefusedFor s l Count = take_line scene_limits s l ≡ Refused WCount
IsRefusedFor s l Memory = ⊤

-- the text is that of a line which is taken
pub record TakesText (text : List ℕ) (s t : State) : Type 0 where
  pub line : Line
  pub form : IsForm line
  pub text_is : text ≡ line_text line
  pub taken : take_line scene_limits s line ≡ Now t

-- the text is that of a line which is refused
pub record RefusesText (text : List ℕ) (s : State) (why : Why) : Type 0 where
  pub line : Line
  pub form : IsForm line
  pub text_is : text ≡ line_text line
  pub refused : take_line scene_limits s line ≡ Refused why

-- the text is bad for this: it is that of a line which is refused, or of no line of the form
abbrev pub IsBadText : List ℕ → State → SceneFault → Type 0
IsBadText text s Form = ((l : Line) → IsForm l → ¬ (text ≡ line_text l)) ⊎ RefusesText text s WForm
IsBadText text s Range = RefusesText text s WRange
IsBadText text s Count = RefusesText text s WCount
IsBadText text s Memory = ⊤

-- the fault names the first bad line of the text; want of memory says nothing of it
abbrev pub IsFaultOf : List ℕ → TextFault → Type 0
IsFaultOf text (Bad line why) = FirstBad text line why
IsFaultOf text NoMemory = ⊤

-- the fault of a line, as one of the text
abbrev pub fault_at : ℕ → SceneFault → TextFault
fault_at line Form = Bad line WForm
fault_at line Range = Bad line WRange
fault_at line Count = Bad line WCount
fault_at line Memory = NoMemory

-- the key of an operation is refused for this: its partition is not there, or the transaction has no room, since else the table has
abbrev pub IsKeyRefused : State → PartId → SceneFault → Type 0
IsKeyRefused s part Form = ⊥
IsKeyRefused s part Range = is_up_to (length s.draft.parts) part.0 ≡ false
IsKeyRefused s part Count = (is_up_to (length s.draft.parts) part.0 ≡ true) × (OPERATIONS ≤ length s.ops)
IsKeyRefused s part Memory = ⊤

-- the version of the line, where it is the version's
abbrev pub version_given : Option Line → Option ℕ
version_given (Some (LVersion v)) = Some v
version_given _ = None

-- What a reader makes of a frame, and of bytes.
use Rattle.std.specs.List.{list_all}
use Rattle.std.specs.Option.{SomeIff}
use Rattle.std.specs.Prelude.{Bool, List, None, Option, Some, false, length, true, ℕ, ⊤, ◌++◌, ◌==◌, ◌∷◌, ◌≡◌, ◌≤◌}
use Rattle.request_frame.specs.FirstBad.{FirstBad}
use Rattle.request_frame.specs.FrameBytes.{IsForm, IsOpForm, frame_bytes, op_bytes, script_bytes}
use Rattle.request_frame.specs.FrameOrder.{frame_follows, opening}
use Rattle.request_frame.specs.FrameTaking.{take_frame, take_frames}
use Rattle.request_frame.specs.Frames.{Frame}
use Rattle.request_frame.specs.Spelling.{bytes_of}
use Rattle.request_frame.specs.declared.read.FrameFault.{FrameFault}
use Rattle.request_frame.specs.declared.read.FrameFault.TheVariants.{Bad, Memory as NoMemory}
use Rattle.scene_text.specs.declared.order.Place.{Place}
use Rattle.scene_text.specs.LineOrder.{lead}
use Rattle.scene_text.specs.LineTexts.{Fits}
use Rattle.scene_text.specs.Reading.{IsRefusedFor}
use Rattle.scene_text.specs.Taking.{Limits, State, at_start, in_range, scene_limits, take_lines}
use Rattle.scene_text.specs.Taking.Taken.{Now}
use Rattle.scene_text.specs.declared.lines.Line.{Line}
use Rattle.scene_text.specs.declared.lines.Line.TheVariants.{Puts as LPuts}
use Rattle.str_scene.specs.Lists.{Each}
use Rattle.str_scene.specs.Scenes.{Scene}
use Rattle.str_scene.specs.declared.faults.SceneFault.{SceneFault}
use Rattle.str_scene.specs.declared.faults.SceneFault.TheVariants.{Count, Form, Memory, Range}
use Rattle.str_scene.specs.declared.faults.Why.TheVariants.{Count as WCount, Form as WForm, Range as WRange}

-- the bytes begin with an operation of the form, and what is kept of it is the operation itself where its byte string is short enough
pub record ReadsOp (bytes : List ℕ) (kept : Option Line) (rest : List ℕ) : Type 0 where
  pub op : Line
  pub form : IsOpForm op
  pub parts : bytes ≡ op_bytes op ++ rest
  pub kept_is : SomeIff kept (Fits op) op

-- the bytes begin with no operation of the form
abbrev pub ReadsNoOp : List ℕ → Type 0
ReadsNoOp bytes = (op : Line) (rest : List ℕ) → IsOpForm op → ¬ (bytes ≡ op_bytes op ++ rest)

-- the operation may stand in a scene of this version
abbrev pub is_known_in : ℕ → Line → Bool
is_known_in version (LPuts name p bytes) = version == 2
is_known_in version _ = true

-- the payload is that of a transaction of this version, and this tells whether its numbers are in range where there are so many partitions
pub record ReadsScript (version parts_ : ℕ) (payload : List ℕ) (ranged : Bool) : Type 0 where
  pub ops : List Line
  pub some : 1 ≤ length ops
  pub forms : Each IsOpForm ops
  pub payload_is : payload ≡ script_bytes ops
  pub known : list_all (is_known_in version) ops ≡ true
  pub range : (d : Scene) → length d.parts ≡ parts_ → list_all (in_range d) ops ≡ ranged

-- the payload is that of no transaction of this version
abbrev pub ReadsNoScript : ℕ → List ℕ → Type 0
ReadsNoScript version payload =
    (ops : List Line) → 1 ≤ length ops → Each IsOpForm ops → payload ≡ script_bytes ops → list_all (is_known_in version) ops ≡ false

-- the bytes are frames of the form, which are taken to the state
pub record Reached (bytes : List ℕ) (s : State) : Type 0 where
  pub frames : List Frame
  pub forms : Each IsForm frames
  pub spelled : bytes ≡ bytes_of frames
  pub lead : take_frames scene_limits at_start frames ≡ Now s

-- the bytes are those of a frame which is taken
pub record TakesBytes (bytes : List ℕ) (s t : State) : Type 0 where
  pub frame : Frame
  pub form : IsForm frame
  pub bytes_is : bytes ≡ frame_bytes frame
  pub taken : take_frame scene_limits s frame ≡ Now t

-- the frame may stand here
pub record IsInOrder (s : State) (f : Frame) : Type 0 where
  pub next : Place
  pub order : frame_follows s.draft.version s.place f ≡ Some next

-- the frame is taken within some limits
pub record IsTakenWithin (limits : Limits) (s : State) (f : Frame) : Type 0 where
  pub state : State
  pub taken : take_frame limits s f ≡ Now state

-- a frame that may stand here is not taken within any limits
pub record IsOutOfRange (bytes : List ℕ) (s : State) : Type 0 where
  pub frame : Frame
  pub form : IsForm frame
  pub bytes_is : bytes ≡ frame_bytes frame
  pub order : IsInOrder s frame
  pub refused : (limits : Limits) → ¬ IsTakenWithin limits s frame

-- a frame is taken within some limits, and not within those of a scene
pub record IsTooMany (bytes : List ℕ) (s : State) : Type 0 where
  pub frame : Frame
  pub form : IsForm frame
  pub bytes_is : bytes ≡ frame_bytes frame
  pub limits : Limits
  pub ranged : IsTakenWithin limits s frame
  pub refused : ¬ IsTakenWithin scene_limits s frame

-- the bytes are bad for this: no frame of the form which they spell may stand here, or one is refused; want of memory says nothing of them
abbrev pub IsBadBytes : List ℕ → State → SceneFault → Type 0
IsBadBytes bytes s Form = (f : Frame) → IsForm f → bytes ≡ frame_bytes f → frame_follows s.draft.version s.place f ≡ None
IsBadBytes bytes s Range = IsOutOfRange bytes s
IsBadBytes bytes s Count = IsTooMany bytes s
IsBadBytes bytes s Memory = ⊤

-- the fault names the first bad frame of the bytes; want of memory says nothing of them
abbrev pub IsFaultOf : List ℕ → FrameFault → Type 0
IsFaultOf bytes (Bad place why) = FirstBad bytes place why
IsFaultOf bytes NoMemory = ⊤

-- the fault of a frame, as one of the bytes
abbrev pub fault_at : ℕ → SceneFault → FrameFault
fault_at place Form = Bad place WForm
fault_at place Range = Bad place WRange
fault_at place Count = Bad place WCount
fault_at place Memory = NoMemory

-- the payload is that of operations of the form whose byte strings are short enough
pub record IsShortScript (payload : List ℕ) : Type 0 where
  pub ops : List Line
  pub forms : Each IsOpForm ops
  pub fits : Each Fits ops
  pub payload_is : payload ≡ script_bytes ops

-- the payload is that of operations which are taken
pub record TakesOps (payload : List ℕ) (s t : State) : Type 0 where
  pub ops : List Line
  pub forms : Each IsOpForm ops
  pub payload_is : payload ≡ script_bytes ops
  pub taken : take_lines scene_limits s ops ≡ Now t

-- the payload is that of operations the first of which are taken, and the next is refused
pub record RefusesOps (payload : List ℕ) (s : State) (fault : SceneFault) : Type 0 where
  pub done : List Line
  pub op : Line
  pub more : List Line
  pub forms : Each IsOpForm (done ++ op ∷ more)
  pub payload_is : payload ≡ script_bytes (done ++ op ∷ more)
  pub state : State
  pub taken : take_lines scene_limits s done ≡ Now state
  pub refused : IsRefusedFor state op fault

-- the schedule may not begin here, which is not for a number nor for a limit
abbrev pub IsOpeningRefused : State → SceneFault → Type 0
IsOpeningRefused s Form = lead s.draft.version (Some s.place) (opening s.place) ≡ None
IsOpeningRefused s Range = ⊥
IsOpeningRefused s Count = ⊥
IsOpeningRefused s Memory = ⊤

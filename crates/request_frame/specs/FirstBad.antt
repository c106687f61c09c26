-- The first bad frame of bytes that are no scene's frames, and why it is bad.
use Rattle.std.specs.Prelude.{List, None, Option, Some, drop, if◌then◌else◌, length, nat_le, slice_get, suc, take, zero, ℕ, ◌*◌, ◌++◌, ◌+◌, ◌<◌, ◌∷◌, ◌≡◌, ◌≤◌, ◌⊎◌}
use Rattle.request_frame.specs.FrameBytes.{IsForm}
use Rattle.request_frame.specs.FrameOrder.{place_after}
use Rattle.request_frame.specs.Frames.{Frame, frames_of}
use Rattle.request_frame.specs.Spelling.{IsFrames, bytes_of}
use Rattle.scene_text.specs.FirstBad.{IsRanged}
use Rattle.scene_text.specs.declared.order.Place.{Place}
use Rattle.str_scene.specs.Scenes.{Scene}
use Rattle.str_scene.specs.SceneLimits.{IsScene}
use Rattle.str_scene.specs.declared.faults.Why.{Why}
use Rattle.str_scene.specs.declared.faults.Why.TheVariants.{Count, Cut, Form, Range}

-- so many of the bytes, where there are so many
abbrev pub first_bytes : ℕ → List ℕ → Option (List ℕ)
first_bytes n bytes = if nat_le n (length bytes) then Some (take n bytes) else None

-- the frame with which the bytes begin, by its length; none where they end inside it
abbrev pub sized_frame : List ℕ → Option (List ℕ)
sized_frame (kind ∷ high ∷ low ∷ rest) = first_bytes (3 + (high * 256 + low)) (kind ∷ high ∷ low ∷ rest)
sized_frame _ = None

-- the frame that begins at a place, none where the bytes end inside it; the first five bytes are the frame at 0
abbrev pub frame_at : ℕ → List ℕ → Option (List ℕ)
frame_at zero bytes = first_bytes 5 bytes
frame_at (suc place) bytes = sized_frame (drop (suc place) bytes)

-- the bytes are the first frames of a scene
pub record IsStart (bytes : List ℕ) : Type 0 where
  pub scene : Scene
  pub first : List Frame
  pub rest : List Frame
  pub is_scene : IsScene scene
  pub frames : frames_of scene ≡ first ++ rest
  pub spelled : bytes ≡ bytes_of first

-- the bytes are all frames of a scene
pub record IsWhole (bytes : List ℕ) : Type 0 where
  pub scene : Scene
  pub is_scene : IsScene scene
  pub spelled : IsFrames bytes scene

-- the bytes are frames of the form, in their order, whatever their numbers are
pub record IsFormed (bytes : List ℕ) : Type 0 where
  pub frames : List Frame
  pub place : Place
  pub forms : (i : ℕ) (f : Frame) → slice_get frames i ≡ Some f → IsForm f
  pub spelled : bytes ≡ bytes_of frames
  pub order : place_after frames ≡ Some place

-- the bytes are the first frames of a scene but for the limits on how many of each there may be: all numbers are in range
pub record IsInRange (bytes : List ℕ) : Type 0 where
  pub scene : Scene
  pub first : List Frame
  pub rest : List Frame
  pub ranged : IsRanged scene
  pub frames : frames_of scene ≡ first ++ rest
  pub spelled : bytes ≡ bytes_of first

-- up to this place, and to none after it, the bytes are the first frames of a scene
pub record IsLastStart (bytes : List ℕ) (place : ℕ) : Type 0 where
  pub within : place ≤ length bytes
  pub start : IsStart (take place bytes)
  pub last : (more : ℕ) → place < more → more ≤ length bytes → ¬ IsStart (take more bytes)

-- the bytes end inside the frame at the place, or before the frame of the end
pub record IsCut (bytes : List ℕ) (place : ℕ) : Type 0 where
  pub open_ : ¬ IsWhole (take place bytes)
  pub inside : frame_at place bytes ≡ None

-- bytes follow the frame of the end
pub record IsPastEnd (bytes : List ℕ) (place : ℕ) : Type 0 where
  pub whole : IsWhole (take place bytes)
  pub more : place < length bytes

-- a frame follows at the place, before the frame of the end has come; with it the bytes from the start are these
pub record IsNext (bytes : List ℕ) (place : ℕ) (with_frame : List ℕ) : Type 0 where
  pub open_ : ¬ IsWhole (take place bytes)
  pub frame : List ℕ
  pub there : frame_at place bytes ≡ Some frame
  pub joined : take place bytes ++ frame ≡ with_frame

-- why the frame at the place is bad: the first that applies of a frame cut off, one that is not of the form, stands out of order or
-- after the end, a number out of its range, and one more than there may be
abbrev pub IsBadFor : List ℕ → ℕ → Why → Type 0
IsBadFor bytes place Cut = IsCut bytes place
IsBadFor bytes place Form = IsPastEnd bytes place ⊎ ((with_frame : List ℕ) × IsNext bytes place with_frame × (¬ IsFormed with_frame))
IsBadFor bytes place Range = (with_frame : List ℕ) × IsNext bytes place with_frame × IsFormed with_frame × (¬ IsInRange with_frame)
IsBadFor bytes place Count = (with_frame : List ℕ) × IsNext bytes place with_frame × IsFormed with_frame × IsInRange with_frame

-- the place of the first bad frame of the bytes, and why it is bad
pub record FirstBad (bytes : List ℕ) (place : ℕ) (why : Why) : Type 0 where
  pub last : IsLastStart bytes place
  pub bad : IsBadFor bytes place why

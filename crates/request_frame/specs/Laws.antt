-- Laws of the two spellings of a scene.
use Rattle.std.specs.Prelude.{List, ℕ, ◌≡◌}
use Rattle.request_frame.specs.FirstBad.{FirstBad}
use Rattle.request_frame.specs.Spelling.{IsFrames}
use Rattle.str_scene.specs.SceneLimits.{IsScene}
use Rattle.str_scene.specs.Scenes.{Scene}
use Rattle.str_scene.specs.Spelling.{IsText}
use Rattle.str_scene.specs.declared.faults.Why.{Why}

-- bytes are the frames of one scene at most
abbrev pub OneScene : Type 0
OneScene = (bytes : List ℕ) (s t : Scene) → IsScene s → IsScene t → IsFrames bytes s → IsFrames bytes t → s ≡ t

-- a scene has one list of frames
abbrev pub OneSpelling : Type 0
OneSpelling = (a b : List ℕ) (s : Scene) → IsFrames a s → IsFrames b s → a ≡ b

-- bytes have one first bad frame, for one reason
abbrev pub OneFirstBad : Type 0
OneFirstBad = (bytes : List ℕ) (m n : ℕ) (v w : Why) → FirstBad bytes m v → FirstBad bytes n w → (m ≡ n) × (v ≡ w)

-- bytes with a first bad frame are the frames of no scene
abbrev pub BadIsNoScene : Type 0
BadIsNoScene = (bytes : List ℕ) (n : ℕ) (why : Why) (s : Scene) → FirstBad bytes n why → IsScene s → ¬ IsFrames bytes s

-- frames that are packed from a text and shown again give that text
abbrev pub PackThenShow : Type 0
PackThenShow =
    (text bytes again : List ℕ) (s t : Scene) → IsScene s → IsScene t → IsText text s → IsFrames bytes s → IsFrames bytes t → IsText again t → again ≡ text

-- a text that is shown of frames and packed again gives those frames
abbrev pub ShowThenPack : Type 0
ShowThenPack =
    (bytes text again : List ℕ) (s t : Scene) → IsScene s → IsScene t → IsFrames bytes s → IsText text s → IsText text t → IsFrames again t → again ≡ bytes

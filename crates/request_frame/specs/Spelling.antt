-- The spelling of a scene as frames.
use Rattle.std.specs.Prelude.{List, flat_map, ℕ, ◌≡◌}
use Rattle.request_frame.specs.FrameBytes.{frame_bytes}
use Rattle.request_frame.specs.Frames.{Frame, frames_of}
use Rattle.str_scene.specs.Scenes.{Scene}

-- the bytes of frames, one after the other
abbrev pub bytes_of : List Frame → List ℕ
bytes_of frames = flat_map frame_bytes frames

-- the bytes are the frames of the scene
abbrev pub IsFrames : List ℕ → Scene → Type 0
IsFrames bytes scene = bytes ≡ bytes_of (frames_of scene)

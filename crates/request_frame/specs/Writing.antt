-- The parts of a scene's frames, as they are written.
use Rattle.std.specs.Prelude.{Bool, List, Some, [], slice_get, true, ℕ, ◌++◌, ◌∷◌, ◌≡◌}
use Rattle.request_frame.specs.FrameBytes.{frame_bytes}
use Rattle.request_frame.specs.Frames.{drain_frame, entry_frame, script_frame, session_frames}
use Rattle.request_frame.specs.Frames.Frame.{End, Part}
use Rattle.request_frame.specs.Spelling.{bytes_of}
use Rattle.str_base.specs.declared.names.NodeId.{NodeId}
use Rattle.str_base.specs.declared.names.PartId.{PartId}
use Rattle.str_scene.specs.Scenes.{KeyTable, Session}
use Rattle.str_scene.specs.SceneLimits.{IsByteText, is_name}
use Rattle.str_scene.specs.declared.names.Event.{Event}
use Rattle.str_scene.specs.declared.names.Op.{Op}

-- the names of a table are names, and its byte strings are short
pub record IsSpelled (keys : KeyTable) : Type 0 where
  pub names : (i : ℕ) (key : List ℕ × PartId) → slice_get keys.names i ≡ Some key → is_name key.0 ≡ true
  pub texts : (i : ℕ) (text : List ℕ) → slice_get keys.texts i ≡ Some text → IsByteText text

-- the frame of a partition
abbrev pub part_bytes : List NodeId → List ℕ
part_bytes row = frame_bytes (Part row)

-- the frame of a transaction
abbrev pub tx_bytes : KeyTable → List Op → List ℕ
tx_bytes keys ops = frame_bytes (script_frame keys ops)

-- the frames of a session
abbrev pub session_bytes : KeyTable → Session → List ℕ
session_bytes keys s = bytes_of (session_frames keys s)

-- the frame of an entry
abbrev pub entry_bytes : Event → List ℕ
entry_bytes e = frame_bytes (entry_frame e)

-- the frame of the drain, where there is one, and that of the end
abbrev pub end_bytes : Bool → List ℕ
end_bytes drain = bytes_of (drain_frame drain ++ End ∷ [])

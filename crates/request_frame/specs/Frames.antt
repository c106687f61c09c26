-- The frames of a scene, in the order of the lines of its text.
use Rattle.std.specs.Prelude.{Bool, List, [], false, flat_map, map, true, ℕ, ◌++◌, ◌∷◌}
use Rattle.scene_text.specs.SceneLines.{op_line}
use Rattle.scene_text.specs.declared.lines.Line.{Line}
use Rattle.str_base.specs.declared.names.NodeId.{NodeId}
use Rattle.str_base.specs.declared.names.SessionId.{SessionId}
use Rattle.str_scene.specs.declared.names.Event.{Event}
use Rattle.str_scene.specs.declared.names.Event.TheVariants.{Client as EClient, Deliver as EDeliver}
use Rattle.str_scene.specs.declared.names.Op.{Op}
use Rattle.str_scene.specs.Scenes.{KeyTable, Scene, Session}

-- a frame, with any numbers: the version, which the first five bytes give, the number of nodes, the replicas of a partition, the
-- node of a session, a transaction with the lines of its operations, a client step, a delivery, the drain, the end
pub data Frame : Type 0 where
  Version : ℕ → Frame
  Nodes : ℕ → Frame
  Part : List NodeId → Frame
  Session_ : NodeId → Frame
  Tx : List Line → Frame
  Client : SessionId → ℕ → Frame
  Deliver : ℕ → Frame
  Drain : Frame
  End : Frame

-- the frame of a transaction
abbrev pub script_frame : KeyTable → List Op → Frame
script_frame table ops = Tx (map (op_line table) ops)

-- the frames of a session
abbrev pub session_frames : KeyTable → Session → List Frame
session_frames table s = Session_ s.node ∷ map (script_frame table) s.txs

-- the frame of an entry
abbrev pub entry_frame : Event → Frame
entry_frame (EClient s t) = Client s t
entry_frame (EDeliver i) = Deliver i

-- the frame of the drain, where there is one
abbrev pub drain_frame : Bool → List Frame
drain_frame true = Drain ∷ []
drain_frame false = []

-- the frames after the sessions
abbrev pub tail_frames : Scene → List Frame
tail_frames scene = map entry_frame scene.schedule ++ (drain_frame scene.drain ++ End ∷ [])

-- the frames of a scene
abbrev pub frames_of : Scene → List Frame
frames_of scene =
    Version scene.version ∷ Nodes scene.nodes ∷ (map Part scene.parts ++ (flat_map (session_frames scene.keys) scene.sessions ++ tail_frames scene))

-- The lines of a scene, in the order in which they are spelled.
use Rattle.std.specs.Prelude.{Bool, List, None, Option, Some, [], false, flat_map, map, slice_get, true, ℕ, ◌++◌, ◌+◌, ◌∷◌}
use Rattle.scene_text.specs.declared.lines.Line.{Line}
use Rattle.scene_text.specs.declared.lines.Line.TheVariants.{Abort as LAbort, Add as LAdd, Client as LClient, Del as LDel, Deliver as LDeliver, Drain as LDrain, End as LEnd, Get as LGet, Need as LNeed, Nodes as LNodes, Part as LPart, Put as LPut, Puts as LPuts, Schedule as LSchedule, Session as LSession, Tx as LTx, Version as LVersion}
use Rattle.str_base.specs.declared.names.KeyId.{KeyId}
use Rattle.str_base.specs.declared.names.NodeId.{NodeId}
use Rattle.str_base.specs.declared.names.PartId.{PartId}
use Rattle.str_base.specs.declared.names.TextId.{TextId}
use Rattle.str_scene.specs.declared.names.Event.{Event}
use Rattle.str_scene.specs.declared.names.Event.TheVariants.{Client, Deliver}
use Rattle.str_scene.specs.declared.names.Op.{Op}
use Rattle.str_scene.specs.declared.names.Op.TheVariants.{Abort, Add, Del, Get, Need, Put, Puts}
use Rattle.str_scene.specs.Scenes.{KeyTable, Scene, Session, or_none}

-- a key's name and partition; no name where the table has no such key
abbrev pub key_or_none : Option (List ℕ × PartId) → List ℕ × PartId
key_or_none None = ([], record { 0 = 0 })
key_or_none (Some key) = key

-- the key with a number
abbrev pub key_at : KeyTable → KeyId → List ℕ × PartId
key_at table k = key_or_none (slice_get table.names k.0)

-- the byte string with a number
abbrev pub text_at : KeyTable → TextId → List ℕ
text_at table t = or_none (slice_get table.texts t.0)

-- the line of an operation
abbrev pub op_line : KeyTable → Op → Line
op_line table (Get k) = LGet (key_at table k).0 (key_at table k).1
op_line table (Put k n) = LPut (key_at table k).0 (key_at table k).1 n
op_line table (Puts k t) = LPuts (key_at table k).0 (key_at table k).1 (text_at table t)
op_line table (Add k n) = LAdd (key_at table k).0 (key_at table k).1 n
op_line table (Del k) = LDel (key_at table k).0 (key_at table k).1
op_line table (Need k n) = LNeed (key_at table k).0 (key_at table k).1 n
op_line table Abort = LAbort

-- the lines of a transaction
abbrev pub script_lines : KeyTable → List Op → List Line
script_lines table ops = LTx ∷ map (op_line table) ops

-- the lines of a session
abbrev pub one_session_lines : KeyTable → Session → List Line
one_session_lines table s = LSession s.node ∷ flat_map (script_lines table) s.txs

-- the lines of these partitions, the first of which has the number p
abbrev pub row_lines : ℕ → List (List NodeId) → List Line
row_lines p [] = []
row_lines p (row ∷ rows) = LPart (record { 0 = p }) row ∷ row_lines (p + 1) rows

-- the line of an entry
abbrev pub entry_line : Event → Line
entry_line (Client s t) = LClient s t
entry_line (Deliver i) = LDeliver i

-- the line of the drain, where there is one
abbrev pub drain_line : Bool → List Line
drain_line true = LDrain ∷ []
drain_line false = []

-- the lines up to the sessions' end, with the names of a table
abbrev pub body_lines : KeyTable → Scene → List Line
body_lines table d = LVersion d.version ∷ LNodes d.nodes ∷ (row_lines 1 d.parts ++ flat_map (one_session_lines table) d.sessions)

-- the lines of a scene
abbrev pub lines_of : Scene → List Line
lines_of scene =
    body_lines scene.keys scene ++ (LSchedule ∷ (map entry_line scene.schedule ++ (drain_line scene.drain ++ LEnd ∷ [])))

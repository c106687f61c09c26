-- The parts of a scene's text, each with its line feeds.
use Rattle.std.specs.Prelude.{Bool, List, codes, decimal, false, flat_map, true, ℕ, ◌++◌}
use Rattle.str_base.specs.declared.names.NodeId.{NodeId}
use Rattle.str_scene.specs.Scenes.{KeyTable, Session}
use Rattle.str_scene.specs.Spelling.{ended, event_spelled, op_spelled}
use Rattle.str_scene.specs.declared.names.Event.{Event}
use Rattle.str_scene.specs.declared.names.Op.{Op}

-- the lines of the version and of the nodes
abbrev pub head_text : ℕ → ℕ → List ℕ
head_text version nodes = codes "str " ++ decimal version ++ codes "\nnodes " ++ decimal nodes ++ codes "\n"

-- the line of the drain, where there is one, and the last line
abbrev pub end_text : Bool → List ℕ
end_text true = codes "drain\nend\n"
end_text false = codes "end\n"

-- replicas, each after a space
abbrev pub written_row : List NodeId → List ℕ
written_row row = flat_map (λ r. codes " " ++ decimal r.0) row

-- the lines of a transaction
abbrev pub tx_text : KeyTable → List Op → List ℕ
tx_text keys ops = codes "tx\n" ++ flat_map (λ op. ended (op_spelled keys op)) ops

-- the lines of a session
abbrev pub session_text : KeyTable → Session → List ℕ
session_text keys s = codes "session " ++ decimal s.node.0 ++ codes "\n" ++ flat_map (tx_text keys) s.txs

-- the line of an entry of the schedule
abbrev pub event_text : Event → List ℕ
event_text e = ended (event_spelled e)

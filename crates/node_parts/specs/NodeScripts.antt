-- The scripts of a node's sessions.
use Rattle.std.specs.Prelude.{List, if◌then◌else◌, length, sum_by, ℕ}
use Rattle.str_base.specs.declared.names.NodeId.{NodeId}
use Rattle.str_base.specs.Versions.{same_node}
use Rattle.str_scene.specs.Scenes.{Session}

-- how many scripts the sessions of a node have
abbrev pub scripts_of : NodeId → List Session → ℕ
scripts_of node sessions = sum_by (λ (s : Session). if same_node s.node node then length s.txs else 0) sessions

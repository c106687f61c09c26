-- What is fixed in a run: nodes, replicas, keys, scripts and the schedule.
pub use Rattle.partition_map.specs.Maps.{first_or, leads, nth, or_none, others, unasked}
use Rattle.std.specs.Prelude.{Bool, List, None, Option, Some, [], map, slice_get, ℕ}
use Rattle.partition_map.specs.declared.rows.Asked.{Asked}
use Rattle.partition_map.specs.Maps.{PartitionMap, has_node, numbered, participants_by, row_at, written}
use Rattle.str_scene.specs.declared.names.Event.{Event}
use Rattle.str_base.specs.declared.names.KeyId.{KeyId}
use Rattle.str_base.specs.declared.names.NodeId.{NodeId}
use Rattle.str_scene.specs.declared.names.Op.{Op}
use Rattle.str_base.specs.declared.names.PartId.{PartId}
use Rattle.str_scene.specs.declared.names.TxPlace.{TxPlace}
use Rattle.str_base.specs.declared.names.Write.{Write}
use Rattle.str_base.specs.Versions.{same_part}

-- a session's node and its scripts
pub record Session : Type 0 where
  pub node : NodeId
  pub txs : List (List Op)

-- the names of keys with their partitions, and the byte strings of the scripts, each in order of first appearance
pub record KeyTable : Type 0 where
  pub names : List (List ℕ × PartId)
  pub texts : List (List ℕ)

-- a scene
pub record Scene : Type 0 where
  pub version : ℕ
  pub nodes : ℕ
  pub parts : List (List NodeId)
  pub keys : KeyTable
  pub sessions : List Session
  pub schedule : List Event
  pub drain : Bool

-- a node of a scene
pub record Here : Type 0 where
  pub scene : Scene
  pub node : NodeId

-- the replicas of a partition; the first one is its master
abbrev pub replicas : Scene → PartId → List NodeId
replicas scene p = row_at scene.parts p

-- the node is a replica of the partition
abbrev pub hosts : Scene → NodeId → PartId → Bool
hosts scene n p = has_node n (replicas scene p)

-- the node is the partition's master
abbrev pub is_master : Scene → NodeId → PartId → Bool
is_master scene n p = leads n (replicas scene p)

-- the partition of a key of the table
abbrev pub named_part : Option (List ℕ × PartId) → PartId
named_part None = record { 0 = 0 }
named_part (Some k) = k.1

-- the partition of a key
abbrev pub part_of : Scene → KeyId → PartId
part_of scene k = named_part (slice_get scene.keys.names k.0)

-- the key's partition is hosted here
abbrev pub hosts_key : Here → KeyId → Bool
hosts_key here k = hosts here.scene here.node (part_of here.scene k)

-- the write is of a key of the partition
abbrev pub in_part : Scene → PartId → Write → Bool
in_part scene p w = same_part (part_of scene w.key) p

-- the partitions upwards
abbrev pub all_parts : Scene → List PartId
all_parts scene = numbered scene.parts

-- the partitions of these writes, upwards
abbrev pub written_parts : Scene → List Write → List PartId
written_parts scene ws = written (part_of scene) scene.parts ws

-- the written partitions upwards, and for each its replicas in map order without the origin
abbrev pub participants : Scene → NodeId → List Write → List Asked
participants scene origin ws = participants_by (part_of scene) scene.parts origin ws

-- the partition map of a scene
abbrev pub map_of : Scene → PartitionMap
map_of scene = record { rows = scene.parts; keys = map (λ k. k.1) scene.keys.names }

-- the i-th script of a session
abbrev pub ops_at : Option Session → ℕ → List Op
ops_at None i = []
ops_at (Some s) i = or_none (nth s.txs i)

-- the script at a place
abbrev pub script_at : Scene → TxPlace → List Op
script_at scene place = ops_at (nth scene.sessions place.session.0) place.index

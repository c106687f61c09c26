-- Which nodes hold each partition, the partition of each key, and who takes part in a transaction.
use Rattle.std.specs.List.{list_any, range_with_len}
use Rattle.std.specs.Prelude.{Bool, List, None, Option, Some, [], false, filter, flat_map, length, map, not, slice_get, suc, zero, ℕ, ◌<◌, ◌∷◌, ◌≡◌, ◌≤◌}
use Rattle.partition_map.specs.declared.rows.Asked.{Asked}
use Rattle.str_base.specs.declared.limits.TheConstants.{NODES, REPLICAS}
use Rattle.str_base.specs.declared.names.KeyId.{KeyId}
use Rattle.str_base.specs.declared.names.NodeId.{NodeId}
use Rattle.str_base.specs.declared.names.PartId.{PartId}
use Rattle.str_base.specs.declared.names.Write.{Write}
use Rattle.str_base.specs.Versions.{same_node, same_part}

-- ---- rows

-- the i-th of a list, counted from 1
abbrev pub nth : {X : Type 0} → List X → ℕ → Option X
nth xs zero = None
nth xs (suc i) = slice_get xs i

-- the list, empty where there is none
abbrev pub or_none : {X : Type 0} → Option (List X) → List X
or_none None = []
or_none (Some xs) = xs

-- the row of a partition; the first of it is the master
abbrev pub row_at : List (List NodeId) → PartId → List NodeId
row_at rows p = or_none (nth rows p.0)

-- the first node of a row
abbrev pub first_or : NodeId → List NodeId → NodeId
first_or n [] = n
first_or n (r ∷ rs) = r

-- the node is the first of the row
abbrev pub leads : NodeId → List NodeId → Bool
leads n [] = false
leads n (r ∷ rs) = same_node r n

-- the node is one of the row
abbrev pub has_node : NodeId → List NodeId → Bool
has_node n row = list_any (λ r. same_node r n) row

-- the nodes but this one
abbrev pub others : NodeId → List NodeId → List NodeId
others n rs = filter (λ r. not (same_node r n)) rs

-- a number from 1 to the last
abbrev pub Exists : ℕ → ℕ → Type 0
Exists n last = (1 ≤ n) × (n ≤ last)

-- a partition's row: nodes of the scene, one at least, none twice
pub record IsRow (nodes : ℕ) (row : List NodeId) : Type 0 where
  pub some : 1 ≤ length row
  pub few : length row ≤ REPLICAS
  pub exist : (i : ℕ) (n : NodeId) → slice_get row i ≡ Some n → Exists n.0 nodes
  pub distinct : (i j : ℕ) (n : NodeId) → slice_get row i ≡ Some n → slice_get row j ≡ Some n → i ≡ j

-- ---- participants, by the partition of each key

-- the partitions upwards
abbrev pub numbered : List (List NodeId) → List PartId
numbered rows = map (λ n. record { 0 = n }) (range_with_len 1 (length rows))

-- one of these writes is of a key of the partition
abbrev pub is_written : (KeyId → PartId) → List Write → PartId → Bool
is_written part_of ws p = list_any (λ w. same_part (part_of w.key) p) ws

-- the partitions of these writes, upwards
abbrev pub written : (KeyId → PartId) → List (List NodeId) → List Write → List PartId
written part_of rows ws = filter (λ p. is_written part_of ws p) (numbered rows)

-- a participant that is not asked
abbrev pub unasked : PartId → NodeId → Asked
unasked p n = record { part = p; node = n; asked = false; ack = None }

-- the written partitions upwards, and for each its replicas in map order without the origin
abbrev pub participants_by : (KeyId → PartId) → List (List NodeId) → NodeId → List Write → List Asked
participants_by part_of rows origin ws =
    flat_map (λ p. map (unasked p) (others origin (row_at rows p))) (written part_of rows ws)

-- ---- maps

-- the replicas of each partition, and the partition of each key
pub record PartitionMap : Type 0 where
  pub rows : List (List NodeId)
  pub keys : List PartId

-- what the type of a map keeps: proper rows, no more of them than a partition can name, and keys of partitions that exist
pub record IsMap (map : PartitionMap) : Type 0 where
  pub few : length map.rows ≤ 255
  pub rows : (i : ℕ) (row : List NodeId) → slice_get map.rows i ≡ Some row → IsRow NODES row
  pub keys : (i : ℕ) (part : PartId) → slice_get map.keys i ≡ Some part → Exists part.0 (length map.rows)

-- the key is one of the map
abbrev pub HasKey : PartitionMap → KeyId → Type 0
HasKey map key = key.0 < length map.keys

-- the partition is one of the map
abbrev pub HasPart : PartitionMap → PartId → Type 0
HasPart map part = Exists part.0 (length map.rows)

-- a partition, where there is one
abbrev pub part_or_none : Option PartId → PartId
part_or_none None = record { 0 = 0 }
part_or_none (Some p) = p

-- the partition of a key
abbrev pub part_of : PartitionMap → KeyId → PartId
part_of map key = part_or_none (slice_get map.keys key.0)

-- the replicas of a partition in order
abbrev pub replicas : PartitionMap → PartId → List NodeId
replicas map part = row_at map.rows part

-- the node is a replica of the partition
abbrev pub hosts : PartitionMap → NodeId → PartId → Bool
hosts map node part = has_node node (replicas map part)

-- the written partitions upwards, and for each its replicas in map order without the origin
abbrev pub participants : PartitionMap → NodeId → List Write → List Asked
participants map origin ws = participants_by (part_of map) map.rows origin ws

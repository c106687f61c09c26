use Rattle.std.proofs.Common.{drop, ◌≡◌}
use Rattle.partition_map.specs.Maps.{has_node}
use Rattle.partition_map.proofs.maps.PartitionMap.hosts.Given as goal

abbrev pub invariant-loop-replica : goal.invariant-loop-replica
invariant-loop-replica l =
    has_node l.node (drop l.replica-index l.replica-items) ≡ has_node l.node l.replica-items

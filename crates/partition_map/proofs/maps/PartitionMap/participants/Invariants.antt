use Rattle.std.proofs.Common.{drop, ◌+◌, ◌++◌, ◌≡◌}
use Rattle.partition_map.specs.Maps.{part_of, participants}
use Rattle.partition_map.proofs.Taking.{taking}
use Rattle.partition_map.proofs.maps.PartitionMap.participants.Given as goal

abbrev pub invariant-loop-i : goal.invariant-loop-i
invariant-loop-i l =
    l.list ++ taking (part_of l.self) l.origin l.writes (l.i + 1) (drop l.i l.self.rows) ≡ participants l.self l.origin l.writes

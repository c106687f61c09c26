use Rattle.std.proofs.Common.{drop, ◌≡◌}
use Rattle.partition_map.specs.Maps.{is_written, part_of}
use Rattle.partition_map.proofs.maps.PartitionMap.is_written.Given as goal

abbrev pub invariant-loop-write : goal.invariant-loop-write
invariant-loop-write l =
    is_written (part_of l.self) (drop l.write-index l.writes) l.part ≡ is_written (part_of l.self) l.writes l.part

use Rattle.std.proofs.Common.{drop, length, ◌||◌, ◌≡◌, ◌≤◌}
use Rattle.partition_map.specs.Maps.{is_written, part_of}
use Rattle.str_base.specs.declared.names.PartId.{PartId}
use Rattle.version_chain.specs.ChainLists.{is_among}
use Rattle.cascade_abort.proofs.removal.written.Given as goal

abbrev pub invariant-loop-write : goal.invariant-loop-write
invariant-loop-write l = record {
  few : length l.parts ≤ l.write-index;
  same : (p : PartId) → (is_among l.parts p || is_written (part_of l.map) (drop l.write-index l.write-items) p) ≡ is_written (part_of l.map) l.writes p;
}

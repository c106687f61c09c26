use Rattle.std.proofs.Common.{drop, length, map, ◌+◌, ◌++◌, ◌≡◌, ◌≤◌}
use Rattle.str_base.specs.declared.limits.TheConstants.{PARTICIPANTS}
use Rattle.partition_map.specs.Maps.{others, unasked}
use Rattle.partition_map.proofs.maps.push_others.Given as goal

abbrev pub invariant-loop-node : goal.invariant-loop-node
invariant-loop-node l = record {
  room : length l.list + length (others l.origin (drop l.node-index l.row)) ≤ PARTICIPANTS;
  rest : l.list ++ map (unasked l.part) (others l.origin (drop l.node-index l.row)) ≡ l.fn.list ++ map (unasked l.part) (others l.origin l.row);
}

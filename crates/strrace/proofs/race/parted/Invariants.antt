use Rattle.std.proofs.Common.{map, ◌++◌, ◌≡◌}
use Rattle.std.specs.Vec.Iter.{into_iter_items}
use Rattle.strrace.proofs.race.parted.Given as goal

abbrev pub invariant-loop-node : goal.invariant-loop-node
invariant-loop-node g l = record {
  nodes : map (λ n. n.node) l.fn.nodes.items ≡ l.members.items ++ map (λ n. n.node) (into_iter_items l.node-iterator);
  logs : map (λ n. n.log) l.fn.nodes.items ≡ l.logs.items ++ map (λ n. n.log) (into_iter_items l.node-iterator);
}

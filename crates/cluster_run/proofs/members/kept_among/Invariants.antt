use Rattle.std.proofs.Common.{drop, length, min, ◌+◌, ◌-◌, ◌^◌, ◌≡◌, ◌≤◌}
use Rattle.std.specs.List.{sum_by}
use Rattle.node_core.specs.Working.{NodeState}
use Rattle.cluster_run.proofs.members.kept_among.Given as goal

abbrev pub invariant-loop-node : goal.invariant-loop-node
invariant-loop-node l = record {
  most : l.total ≤ 2 ^ 64 - 1;
  sum : min (l.total + sum_by (λ (n : NodeState). length n.view.versions) (drop l.node-index l.nodes)) (2 ^ 64 - 1) ≡ min (sum_by (λ (n : NodeState). length n.view.versions) l.nodes) (2 ^ 64 - 1);
}

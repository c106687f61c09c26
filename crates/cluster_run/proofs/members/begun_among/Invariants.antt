use Rattle.std.proofs.Common.{drop, length, ◌+◌, ◌≡◌}
use Rattle.std.specs.List.{sum_by}
use Rattle.node_core.specs.Working.{NodeState}
use Rattle.cluster_run.proofs.members.begun_among.Given as goal

abbrev pub invariant-loop-node : goal.invariant-loop-node
invariant-loop-node l = l.total + sum_by (λ (n : NodeState). length n.view.own) (drop l.node-index l.nodes) ≡ sum_by (λ (n : NodeState). length n.view.own) l.nodes

use Rattle.std.proofs.Common.{drop, not, ◌+◌, ◌≡◌}
use Rattle.std.specs.List.{count_by, sum_by}
use Rattle.node_core.specs.Working.{NodeState}
use Rattle.cluster_run.proofs.members.held_among.Given as goal
use Rattle.str_model.specs.Views.{is_decided}

abbrev pub invariant-loop-node : goal.invariant-loop-node
invariant-loop-node l =
    l.total + sum_by (λ (n : NodeState). count_by (λ x. not (is_decided x.phase)) n.view.own) (drop l.node-index l.nodes) ≡ sum_by (λ (n : NodeState). count_by (λ x. not (is_decided x.phase)) n.view.own) l.nodes

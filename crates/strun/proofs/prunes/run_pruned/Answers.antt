use Rattle.std.proofs.Common.{sym, ◌∙◌}
use Rattle.strun.proofs.PrunedRuns.{pruned_drain, pruned_schedule}
use Rattle.strun.proofs.prunes.run_pruned.Goals as goal

pub returns-then-not-drains-clause-state : goal.returns-then-not-drains-clause-state
returns-then-not-drains-clause-state c =
    pruned_schedule c.args.scene _ _ _ c.in_ok-cluster.ensures.scene c.in_ok-cluster.ensures.state c.in_ok-run_schedule.ensures.ok (sym c.drain-drains.ensures.value ∙ c.if-not-drains.true)

pub returns-clause-state : goal.returns-clause-state
returns-clause-state c =
    pruned_drain c.args.scene _ _ _ _ _ c.in_ok-cluster.ensures.scene c.in_ok-cluster.ensures.state c.in_ok-run_schedule.ensures.ok
    (c.run_schedule.ensures.scene ∙ c.in_ok-cluster.ensures.scene) (sym c.drain-drains.ensures.value ∙ c.if-not-drains.false) c.in_ok-drain.ensures.ok

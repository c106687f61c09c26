use Rattle.std.proofs.Common.{sym, ◌∙◌}
use Rattle.strun.proofs.WholeRun.{ran_drained, ran_schedule}
use Rattle.strun.proofs.writing.run_cluster.Goals as goal

pub returns-then-not-drains-clause-world : goal.returns-then-not-drains-clause-world
returns-then-not-drains-clause-world c =
    ran_schedule c.args.scene _ _ _ c.in_ok-cluster.ensures.scene c.in_ok-cluster.ensures.world c.in_ok-run_schedule.ensures.ok (sym c.drain-drains.ensures.value ∙ c.if-not-drains.true)

pub returns-clause-world : goal.returns-clause-world
returns-clause-world c =
    ran_drained c.args.scene _ _ _ _ _ c.in_ok-cluster.ensures.scene c.in_ok-cluster.ensures.world c.in_ok-run_schedule.ensures.ok
    (c.run_schedule.ensures.scene ∙ c.in_ok-cluster.ensures.scene) (sym c.drain-drains.ensures.value ∙ c.if-not-drains.false) c.in_ok-drain.ensures.ok

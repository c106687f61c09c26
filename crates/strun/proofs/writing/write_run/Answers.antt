use Rattle.strun.proofs.Written.{of_run, partly_of_run}
use Rattle.strun.proofs.writing.write_run.Goals as goal

pub returns-clause-written : goal.returns-clause-written
returns-clause-written g c =
    of_run c.args.scene _ _ _ _ _ c.write_cluster.result c.in_ok-cluster.ensures.scene c.in_ok-cluster.ensures.world c.write_cluster.ensures.written

pub returns-clause-partial : goal.returns-clause-partial
returns-clause-partial g c =
    partly_of_run c.args.scene _ _ _ _ _ c.write_cluster.result c.in_ok-cluster.ensures.scene c.in_ok-cluster.ensures.world c.write_cluster.ensures.partial

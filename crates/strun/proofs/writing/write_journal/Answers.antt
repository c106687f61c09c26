use Rattle.strun.proofs.Written.{journal_of_run, journal_partly_of_run}
use Rattle.strun.proofs.writing.write_journal.Goals as goal

pub returns-clause-written : goal.returns-clause-written
returns-clause-written g c =
    journal_of_run c.args.scene _ _ _ _ _ c.write_whole.result c.in_ok-cluster.ensures.scene c.in_ok-cluster.ensures.world c.write_whole.ensures.written

pub returns-clause-partial : goal.returns-clause-partial
returns-clause-partial g c =
    journal_partly_of_run c.args.scene _ _ _ _ _ c.write_whole.result c.in_ok-cluster.ensures.scene c.in_ok-cluster.ensures.world c.write_whole.ensures.partial

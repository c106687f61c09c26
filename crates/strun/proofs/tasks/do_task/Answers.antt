use Rattle.std.proofs.Common.{false, true}
use Rattle.strun.proofs.Doing.{made_done, made_failed}
use Rattle.strun.proofs.tasks.do_task.Goals as goal

pub returns-in-Generate-default-true-clause-done : goal.returns-in-Generate-default-true-clause-done
returns-in-Generate-default-true-clause-done g c =
    made_done c.args.task _ true _ _ _ c.write_made_end.result (cc (c.in-Generate-default-true.is, c.in-Generate-default-true.run'-test, c.in-Generate-default-true.seed-is, c.in-Generate-default-true.run'-is)) c.write_made_end.ensures.written

pub returns-in-Generate-default-true-clause-failed : goal.returns-in-Generate-default-true-clause-failed
returns-in-Generate-default-true-clause-failed g c =
    made_failed c.args.task _ true _ _ _ _ _ _ _ c.write_made_end.result (cc (c.in-Generate-default-true.is, c.in-Generate-default-true.run'-test, c.in-Generate-default-true.seed-is, c.in-Generate-default-true.run'-is)) c.write_made_end.ensures.partial
    c.write_made_end.ensures.failed

pub returns-in-Generate-default-false-clause-done : goal.returns-in-Generate-default-false-clause-done
returns-in-Generate-default-false-clause-done g c =
    made_done c.args.task _ false _ _ _ c.write_made.result (cc (c.in-Generate-default-false.is, c.in-Generate-default-false.run'-test, c.in-Generate-default-false.seed-is, c.in-Generate-default-false.run'-is)) c.write_made.ensures.written

pub returns-in-Generate-default-false-clause-failed : goal.returns-in-Generate-default-false-clause-failed
returns-in-Generate-default-false-clause-failed g c =
    made_failed c.args.task _ false _ _ _ _ _ _ _ c.write_made.result (cc (c.in-Generate-default-false.is, c.in-Generate-default-false.run'-test, c.in-Generate-default-false.seed-is, c.in-Generate-default-false.run'-is)) c.write_made.ensures.partial
    c.write_made.ensures.failed

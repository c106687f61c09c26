use Rattle.std.proofs.lemmas.Result.{err_from_is_err_and}
use Rattle.strun.proofs.Calls.{asked_done, nothing_asked, reads_nothing, task_failed}
use Rattle.strun.proofs.tops.do_words.Goals as goal

pub returns-in_err-task-clause-failed : goal.returns-in_err-task-clause-failed
returns-in_err-task-clause-failed g c =
    let p = err_from_is_err_and c.from_residual.result c.from_residual.ensures.1 in
    rw (p.1, p.2) (nothing_asked _ _ _ _ _ c.in_err-task.field-0.0 c.in_err-task.ensures.unasked)

pub returns-clause-done : goal.returns-clause-done
returns-clause-done g c = asked_done _ c.in_ok-task.task _ _ _ _ c.do_task.result c.in_ok-task.ensures.asked c.do_task.ensures.done

pub returns-clause-unread : goal.returns-clause-unread
returns-clause-unread g c = λ a. c.do_task.ensures.unread (reads_nothing _ c.in_ok-task.task c.in_ok-task.ensures.asked a)

pub returns-clause-failed : goal.returns-clause-failed
returns-clause-failed g c =
    task_failed _ c.in_ok-task.task _ _ _ _ _ _ _ _ c.do_task.result c.in_ok-task.ensures.asked c.do_task.ensures.failed

use Rattle.std.proofs.Common.{refl}
use Rattle.std.proofs.lemmas.Result.{err_from_is_err_and}
use Rattle.strun.proofs.Doing.{history_unread, task_done, writing_failed}
use Rattle.strun.specs.Audits.{Audited}
use Rattle.strun_words.specs.declared.task.Task.TheVariants.{At}
use Rattle.strun.proofs.tasks.do_at.Goals as goal

pub returns-in_err-history-clause-failed : goal.returns-in_err-history-clause-failed
returns-in_err-history-clause-failed g c =
    let p = err_from_is_err_and c.from_residual.result c.from_residual.ensures.1 in
    rw (p.1, p.2) (history_unread (At c.args.time) _ _ _ _ _ _ _ c.in_err-history.field-0.0 refl c.in_err-history.ensures.failed)

pub returns-clause-done : goal.returns-clause-done
returns-clause-done g c =
    let a : Audited = record { scene = c.in_ok-history.history.scene; answers = c.in_ok-history.history.answers.items; verdict = c.in_ok-verdict.verdict } in
    task_done (At c.args.time) _ _ _ _ a c.write_at.result (c.in_ok-history.ensures.taken, c.in_ok-verdict.ensures.verdict) c.write_at.ensures.written

pub returns-clause-failed : goal.returns-clause-failed
returns-clause-failed g c =
    let a : Audited = record { scene = c.in_ok-history.history.scene; answers = c.in_ok-history.history.answers.items; verdict = c.in_ok-verdict.verdict } in
    writing_failed (At c.args.time) _ _ _ _ _ _ _ _ a c.write_at.result (c.in_ok-history.ensures.taken, c.in_ok-verdict.ensures.verdict) c.write_at.ensures.partial
    c.write_at.ensures.failed

use Rattle.std.proofs.Common.{refl}
use Rattle.std.proofs.lemmas.Result.{err_from_is_err_and}
use Rattle.run_io.proofs.Rendered.{partly_as, written_as}
use Rattle.strun.proofs.AuditWritten.{verdict_is}
use Rattle.strun.proofs.Doing.{history_unread, task_done, writing_failed}
use Rattle.strun.specs.Audits.{Audited}
use Rattle.strun_words.specs.declared.task.Task.TheVariants.{Audit}
use Rattle.strun.proofs.tasks.do_audit.Goals as goal

pub returns-in_err-history-clause-failed : goal.returns-in_err-history-clause-failed
returns-in_err-history-clause-failed g c =
    let p = err_from_is_err_and c.from_residual.result c.from_residual.ensures.1 in
    rw (p.1, p.2) (history_unread Audit _ _ _ _ _ _ _ c.in_err-history.field-0.0 refl c.in_err-history.ensures.failed)

pub returns-clause-done : goal.returns-clause-done
returns-clause-done g c =
    let a : Audited = record { scene = c.in_ok-history.history.scene; answers = c.in_ok-history.history.answers.items; verdict = c.in_ok-verdict.verdict } in
    task_done Audit _ _ _ _ a c.write_verdict.result (c.in_ok-history.ensures.taken, c.in_ok-verdict.ensures.verdict)
    (written_as _ _ _ _ c.write_verdict.result (verdict_is _ a.answers a.verdict c.as_slice.ensures.value) c.write_verdict.ensures.written)

pub returns-clause-failed : goal.returns-clause-failed
returns-clause-failed g c =
    let a : Audited = record { scene = c.in_ok-history.history.scene; answers = c.in_ok-history.history.answers.items; verdict = c.in_ok-verdict.verdict } in
    writing_failed Audit _ _ _ _ _ _ _ _ a c.write_verdict.result (c.in_ok-history.ensures.taken, c.in_ok-verdict.ensures.verdict)
    (partly_as _ _ _ _ c.write_verdict.result (verdict_is _ a.answers a.verdict c.as_slice.ensures.value) c.write_verdict.ensures.partial)
    c.write_verdict.ensures.failed

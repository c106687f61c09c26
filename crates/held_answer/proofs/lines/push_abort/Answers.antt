use Rattle.str_scene.proofs.KeepingLemmas.{keeps_start}
use Rattle.held_answer.proofs.Failing.{on_err}
use Rattle.held_answer.proofs.lines.push_abort.Goals as goal

pub returns-in_err-push_cause-clause-err : goal.returns-in_err-push_cause-clause-err
returns-in_err-push_cause-clause-err c =
    let space = keeps_start _ _ _ _ c.in_ok-extend_from_slice.ensures.items c.in_err-push_cause.ensures.err in
    on_err _ (keeps_start _ _ _ _ c.in_ok-push_field.ensures.ok space)

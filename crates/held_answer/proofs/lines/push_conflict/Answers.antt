use Rattle.str_scene.proofs.KeepingLemmas.{keeps_start}
use Rattle.held_answer.proofs.Failing.{on_err}
use Rattle.held_answer.proofs.lines.push_conflict.Goals as goal

pub returns-in_err-push_field-clause-err : goal.returns-in_err-push_field-clause-err
returns-in_err-push_field-clause-err c =
    let key = keeps_start _ _ _ _ c.in_ok-push_key.ensures.ok c.in_err-push_field.ensures.err in
    let space = keeps_start _ _ _ _ c.in_ok-extend_from_slice-2.ensures.items key in
    let tx = keeps_start _ _ _ _ c.in_ok-push_tx.ensures.ok space in
    on_err _ (keeps_start _ _ _ _ c.in_ok-extend_from_slice.ensures.items tx)

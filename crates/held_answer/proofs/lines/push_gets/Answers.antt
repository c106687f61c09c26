use Rattle.str_scene.proofs.KeepingLemmas.{keeps_start}
use Rattle.held_answer.proofs.Failing.{on_err}
use Rattle.held_answer.proofs.lines.push_gets.Goals as goal

pub returns-in_err-push_get-clause-err : goal.returns-in_err-push_get-clause-err
returns-in_err-push_get-clause-err c = on_err _ (keeps_start _ _ _ _ c.loop-got.invariant c.in_err-push_get.ensures.err)

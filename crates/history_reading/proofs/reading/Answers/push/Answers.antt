use Rattle.std.proofs.Common.{arith, ◌≤◌, length}
use Rattle.std.proofs.lemmas.Grind.{common_steps}
use Rattle.std.proofs.lemmas.Result.{err_from_is_err_and}
use Rattle.history_reading.proofs.EndingsTaken.{bad_one, no_room}
use Rattle.str_base.specs.declared.limits.TheConstants.{TRANSACTIONS}
use Rattle.history_reading.proofs.reading.Answers.push.Goals as goal

pub returns-in_err-answer-clause-bad : goal.returns-in_err-answer-clause-bad
returns-in_err-answer-clause-bad c =
    let p = err_from_is_err_and c.from_residual.result c.from_residual.ensures.1 in
    rw (p.1, p.2) (bad_one c.args.scene.now c.args.text.now c.args.self.now.list.items c.in_err-answer.field-0.0 c.in_err-answer.ensures.bad)

pub returns-then-len-ge-TRANSACTIONS-clause-bad : goal.returns-then-len-ge-TRANSACTIONS-clause-bad
returns-then-len-ge-TRANSACTIONS-clause-bad c =
    let full : TRANSACTIONS ≤ length c.args.self.now.list.items = grind (arith, common_steps) in
    no_room c.args.scene.now c.args.text.now c.args.self.now.list.items c.in_ok-answer.answer c.in_ok-answer.ensures.answer full

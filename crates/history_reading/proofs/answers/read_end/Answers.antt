use Rattle.std.proofs.Common.{rules}
use Rattle.history_reading.proofs.Spelled.EndsRead.{bad_end_from, end_from, no_end_word}
use Rattle.history_reading.proofs.answers.read_end.Goals as goal

pub returns-in-Some-clause-end : goal.returns-in-Some-clause-end
returns-in-Some-clause-end c = end_from c.args.scene.now c.args.text.now _ c.read_commit.result c.in-Some.ensures.rest c.read_commit.ensures.end

pub returns-in-Some-clause-bad : goal.returns-in-Some-clause-bad
returns-in-Some-clause-bad c = bad_end_from c.args.scene.now c.args.text.now _ c.read_commit.result c.in-Some.ensures.rest c.read_commit.ensures.bad

pub returns-in-Some-rest_after-clause-end : goal.returns-in-Some-rest_after-clause-end
returns-in-Some-rest_after-clause-end c = end_from c.args.scene.now c.args.text.now _ c.read_abort.result c.in-Some-rest_after.ensures.rest c.read_abort.ensures.end

pub returns-in-Some-rest_after-clause-bad : goal.returns-in-Some-rest_after-clause-bad
returns-in-Some-rest_after-clause-bad c = bad_end_from c.args.scene.now c.args.text.now _ c.read_abort.result c.in-Some-rest_after.ensures.rest c.read_abort.ensures.bad

pub returns-in-None-clause-bad : goal.returns-in-None-clause-bad
returns-in-None-clause-bad c = no_end_word c.args.text.now (c.in_default.ensures.none (search rules)) (c.in-None.ensures.none (search rules))

use Rattle.std.proofs.Common.{rules, sym, ◌∙◌}
use Rattle.history_reading.proofs.Spelled.EndsRead.{abort_no_cause, abort_no_end, abort_no_time, abort_read, abort_wide}
use Rattle.history_reading.proofs.answers.read_abort.Goals as goal

pub returns-in_default-clause-bad : goal.returns-in_default-clause-bad
returns-in_default-clause-bad c = abort_no_end c.args.text.now (c.in_default.ensures.none (search rules))

pub returns-in_default-read_time-clause-bad : goal.returns-in_default-read_time-clause-bad
returns-in_default-read_time-clause-bad c = abort_no_end c.args.text.now (abort_no_time c.args.text.now c.in-Some.rs.now c.in-Some.cause.now c.in-Some.ensures.parts (c.in_default-read_time.ensures.none (search rules)))

pub returns-in_default-read_cause-clause-bad : goal.returns-in_default-read_cause-clause-bad
returns-in_default-read_cause-clause-bad c = abort_no_end c.args.text.now (abort_no_cause c.args.text.now c.in-Some.rs.now c.in-Some.cause.now c.in-Some.ensures.parts (c.in_default-read_cause.ensures.none (search rules)))

pub returns-in-Some-zip-clause-end : goal.returns-in-Some-zip-clause-end
returns-in-Some-zip-clause-end c =
    abort_read c.args.scene.now c.args.text.now c.in-Some.rs.now c.in-Some.cause.now c.in-Some-read_time.rs c.in-Some-read_cause.cause c.in-Some-zip.rs c.in-Some-zip.cause c.in-Some.ensures.parts c.in-Some-read_time.ensures.time c.in-Some-read_cause.ensures.cause
    (sym c.zip.ensures ∙ c.in-Some-zip.is)

pub returns-in-None-clause-bad : goal.returns-in-None-clause-bad
returns-in-None-clause-bad c =
    abort_wide c.args.scene.now c.args.text.now c.in-Some.rs.now c.in-Some.cause.now c.in-Some-read_time.rs c.in-Some-read_cause.cause c.in-Some.ensures.parts c.in-Some-read_time.ensures.time c.in-Some-read_cause.ensures.cause (sym c.zip.ensures ∙ c.in-None.is)

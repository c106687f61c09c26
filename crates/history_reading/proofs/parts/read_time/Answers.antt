use Rattle.history_reading.proofs.Spelled.PartsRead.{time_lost, time_read, time_wide}
use Rattle.history_reading.proofs.parts.read_time.Goals as goal

pub returns-in-Some-clause-time : goal.returns-in-Some-clause-time
returns-in-Some-clause-time c = time_read c.args.text.now c.in_ok-time.field-0 c.in-Some.time c.in-Some.is c.in_ok-time.ensures.number c.if-time-lt9223372036854775808.true

pub returns-in_default-clause-time : goal.returns-in_default-clause-time
returns-in_default-clause-time c = time_wide c.args.text.now c.in_ok-time.field-0 c.in-Some.time c.in-Some.is c.in_ok-time.ensures.number c.if-time-lt9223372036854775808.false

pub returns-in_default-2-clause-time : goal.returns-in_default-2-clause-time
returns-in_default-2-clause-time c = time_lost c.args.text.now c.in_ok-time.field-0 c.in_default.is c.in_ok-time.ensures.number

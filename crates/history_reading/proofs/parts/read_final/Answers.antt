use Rattle.std.proofs.Common.{refl}
use Rattle.history_reading.proofs.Spelled.PartsRead.{final_none, final_read, final_wide, no_final}
use Rattle.history_reading.proofs.parts.read_final.Goals as goal

pub returns-then-is_same-clause-time : goal.returns-then-is_same-clause-time
returns-then-is_same-clause-time c = final_none c.args.text.now (c.is_same.ensures.0 c.if-is_same.true)

pub returns-in_err-fc-clause-none : goal.returns-in_err-fc-clause-none
returns-in_err-fc-clause-none c = λ none. no_final c.args.text.now (λ e. cc (c.is_same.ensures.1 e, c.if-is_same.false)) (c.in_err-fc.ensures.none refl)

pub returns-in-Some-clause-time : goal.returns-in-Some-clause-time
returns-in-Some-clause-time c = final_read c.args.text.now c.in_ok-fc.field-0 c.in-Some.fc c.in-Some.is c.in_ok-fc.ensures.time

pub returns-in-None-clause-time : goal.returns-in-None-clause-time
returns-in-None-clause-time c = final_wide c.args.text.now c.in_ok-fc.field-0 c.in-None.is c.in_ok-fc.ensures.time

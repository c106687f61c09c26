use Rattle.std.proofs.Common.{refl, rules}
use Rattle.history_reading.proofs.Spelled.CausesRead.{conflict_cause, late_cause, lost_read, lost_wide, no_cause_word, no_conflict_cause, no_late_cause, no_lost_cause, wish_read}
use Rattle.history_reading.proofs.Spelled.Zips.{if_some}
use Rattle.history_reading.proofs.causes.read_cause.Goals as goal

pub returns-then-is_same-clause-cause : goal.returns-then-is_same-clause-cause
returns-then-is_same-clause-cause c = wish_read c.args.scene.now c.args.text.now (c.is_same.ensures.0 c.if-is_same.true)

pub returns-in-Some-clause-cause : goal.returns-in-Some-clause-cause
returns-in-Some-clause-cause c = if_some c.read_conflict.result (λ kept s. conflict_cause c.args.scene.now c.args.text.now c.in-Some.rest.now kept c.in-Some.ensures.rest s) c.read_conflict.ensures.cause

pub returns-in-Some-clause-none : goal.returns-in-Some-clause-none
returns-in-Some-clause-none c = λ none. no_conflict_cause c.args.text.now c.in-Some.rest.now c.in-Some.ensures.rest (c.read_conflict.ensures.none none)

pub returns-in-Some-rest_after-clause-cause : goal.returns-in-Some-rest_after-clause-cause
returns-in-Some-rest_after-clause-cause c =
    if_some c.read_late.result (λ kept s. late_cause c.args.scene.now c.args.text.now c.in-Some-rest_after.rest.now kept c.in-Some-rest_after.ensures.rest s) c.read_late.ensures.cause

pub returns-in-Some-rest_after-clause-none : goal.returns-in-Some-rest_after-clause-none
returns-in-Some-rest_after-clause-none c = λ none. no_late_cause c.args.text.now c.in-Some-rest_after.rest.now c.in-Some-rest_after.ensures.rest (c.read_late.ensures.none none)

pub returns-in_err-rest_after-clause-none : goal.returns-in_err-rest_after-clause-none
returns-in_err-rest_after-clause-none c = λ none.
    no_cause_word c.args.text.now (λ e. cc (c.is_same.ensures.1 e, c.if-is_same.false)) (c.in_default.ensures.none (search rules)) (c.in_default-rest_after.ensures.none (search rules)) (c.in_err-rest_after.ensures.none refl)

pub returns-in_err-by-clause-none : goal.returns-in_err-by-clause-none
returns-in_err-by-clause-none c = λ none. no_lost_cause c.args.text.now c.in_ok-rest_after.field-0.now c.in_ok-rest_after.ensures.rest (c.in_err-by.ensures.none refl)

pub returns-in-Some-2-clause-cause : goal.returns-in-Some-2-clause-cause
returns-in-Some-2-clause-cause c = lost_read c.args.scene.now c.args.text.now c.in_ok-rest_after.field-0.now c.in_ok-by.field-0 c.in-Some-2.by c.in_ok-rest_after.ensures.rest c.in-Some-2.is c.in_ok-by.ensures.name

pub returns-in-None-clause-cause : goal.returns-in-None-clause-cause
returns-in-None-clause-cause c = lost_wide c.args.scene.now c.args.text.now c.in_ok-rest_after.field-0.now c.in_ok-by.field-0 c.in_ok-rest_after.ensures.rest c.in-None.is c.in_ok-by.ensures.name

use Rattle.std.proofs.Common.{refl}
use Rattle.history_reading.proofs.Spelled.EndsRead.{abort_no_rs, abort_one_word}
use Rattle.history_reading.proofs.answers.abort_parts.Goals as goal

pub returns-in_err-rest_after-clause-none : goal.returns-in_err-rest_after-clause-none
returns-in_err-rest_after-clause-none c = λ none. abort_no_rs c.args.text.now (c.in_err-rest_after.ensures.none refl)

pub returns-clause-none : goal.returns-clause-none
returns-clause-none c = λ none. abort_one_word c.args.text.now c.in_ok-rest_after.field-0.now c.in_ok-rest_after.ensures.rest (c.split_at_byte.ensures.none none)

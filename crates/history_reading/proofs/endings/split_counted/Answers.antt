use Rattle.std.proofs.Common.{refl}
use Rattle.history_reading.proofs.Spelled.EndingsRead.{counted_no_number, counted_no_space, counted_no_word, counted_read}
use Rattle.history_reading.proofs.endings.split_counted.Goals as goal

pub returns-in_err-rest_after-clause-none : goal.returns-in_err-rest_after-clause-none
returns-in_err-rest_after-clause-none c = λ none. counted_no_word c.args.text.now c.args.word.now (c.in_err-rest_after.ensures.none refl)

pub returns-in_err-digits-clause-none : goal.returns-in_err-digits-clause-none
returns-in_err-digits-clause-none c = λ none. counted_no_space c.args.text.now c.args.word.now c.in_ok-rest_after.field-0.now c.in_ok-rest_after.ensures.rest (c.in_err-digits.ensures.none refl)

pub returns-in_err-read_number-clause-none : goal.returns-in_err-read_number-clause-none
returns-in_err-read_number-clause-none c = λ none.
    counted_no_number c.args.text.now c.args.word.now c.in_ok-rest_after.field-0.now c.in_ok-digits.digits.now c.in_ok-digits.rest.now c.in_ok-rest_after.ensures.rest c.in_ok-digits.ensures.parts c.in_ok-digits.ensures.first
    (c.in_err-read_number.ensures.none refl)

pub returns-clause-number : goal.returns-clause-number
returns-clause-number c =
    counted_read c.args.text.now c.args.word.now c.in_ok-rest_after.field-0.now c.in_ok-digits.digits.now c.in_ok-digits.rest.now c.in_ok-read_number.field-0 c.in_ok-rest_after.ensures.rest c.in_ok-digits.ensures.parts c.in_ok-read_number.ensures.number

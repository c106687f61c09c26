use Rattle.std.proofs.Common.{refl}
use Rattle.history_reading.proofs.Spelled.AnswersRead.{answer_is, answer_one_word, answer_two_words}
use Rattle.history_reading.proofs.answers.answer_parts.Goals as goal

pub returns-in_err-name-clause-none : goal.returns-in_err-name-clause-none
returns-in_err-name-clause-none c = λ none. answer_one_word c.args.text.now (c.in_err-name.ensures.none refl)

pub returns-in_err-place-clause-none : goal.returns-in_err-place-clause-none
returns-in_err-place-clause-none c = λ none. answer_two_words c.args.text.now c.in_ok-name.name.now c.in_ok-name.rest.now c.in_ok-name.ensures.parts c.in_ok-name.ensures.first (c.in_err-place.ensures.none refl)

pub returns-clause-parts : goal.returns-clause-parts
returns-clause-parts c =
    answer_is c.args.text.now c.in_ok-name.name.now c.in_ok-name.rest.now c.in_ok-place.place.now c.in_ok-place.end.now c.in_ok-name.ensures.parts c.in_ok-name.ensures.first c.in_ok-place.ensures.parts c.in_ok-place.ensures.first

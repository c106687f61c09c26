use Rattle.std.proofs.Common.{refl}
use Rattle.history_reading.proofs.Spelled.EndsRead.{commit_is, commit_no_fc, commit_no_rs, commit_one_word}
use Rattle.history_reading.proofs.answers.commit_parts.Goals as goal

pub returns-in_err-rest_after-clause-none : goal.returns-in_err-rest_after-clause-none
returns-in_err-rest_after-clause-none c = λ none. commit_no_rs c.args.text.now (c.in_err-rest_after.ensures.none refl)

pub returns-in_err-rs-clause-none : goal.returns-in_err-rs-clause-none
returns-in_err-rs-clause-none c = λ none. commit_one_word c.args.text.now c.in_ok-rest_after.field-0.now c.in_ok-rest_after.ensures.rest (c.in_err-rs.ensures.none refl)

pub returns-in_err-rest_after-2-clause-none : goal.returns-in_err-rest_after-2-clause-none
returns-in_err-rest_after-2-clause-none c = λ none.
    commit_no_fc c.args.text.now c.in_ok-rest_after.field-0.now c.in_ok-rs.rs.now c.in_ok-rs.rest.now c.in_ok-rest_after.ensures.rest c.in_ok-rs.ensures.parts c.in_ok-rs.ensures.first (c.in_err-rest_after-2.ensures.none refl)

pub returns-clause-parts : goal.returns-clause-parts
returns-clause-parts c =
    commit_is c.args.text.now c.in_ok-rest_after.field-0.now c.in_ok-rs.rs.now c.in_ok-rs.rest.now c.in_ok-rest_after-2.field-0.now c.first_word.result.0.now c.first_word.result.1.now c.in_ok-rest_after.ensures.rest c.in_ok-rs.ensures.parts
    c.in_ok-rs.ensures.first c.in_ok-rest_after-2.ensures.rest c.first_word.ensures.parts c.first_word.ensures.word c.first_word.ensures.after

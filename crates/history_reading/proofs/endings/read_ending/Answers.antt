use Rattle.std.proofs.Common.{ap, refl, sym, ◌∙◌}
use Rattle.std.specs.Option.{option_zip}
use Rattle.history_reading.proofs.Spelled.EndingsRead.{four_read, no_aborts, no_commits, no_held, no_last, no_messages, no_unbegun, numbers_read, numbers_wide, two_read}
use Rattle.history_reading.proofs.endings.read_ending.Goals as goal

pub returns-in_err-commits-clause-none : goal.returns-in_err-commits-clause-none
returns-in_err-commits-clause-none c = λ none. no_commits c.args.text.now (c.in_err-commits.ensures.none refl)

pub returns-in_err-aborts-clause-none : goal.returns-in_err-aborts-clause-none
returns-in_err-aborts-clause-none c = λ none. no_aborts c.args.text.now c.in_ok-commits.rest.now c.in_ok-commits.commits c.in_ok-commits.ensures.number (c.in_err-aborts.ensures.none refl)

pub returns-in_err-held-clause-none : goal.returns-in_err-held-clause-none
returns-in_err-held-clause-none c = λ none.
    let two = two_read c.args.text.now c.in_ok-commits.rest.now c.in_ok-aborts.rest.now c.in_ok-commits.commits c.in_ok-aborts.aborts c.in_ok-commits.ensures.number c.in_ok-aborts.ensures.number in
    no_held c.args.text.now c.in_ok-aborts.rest.now c.in_ok-commits.commits c.in_ok-aborts.aborts two (c.in_err-held.ensures.none refl)

pub returns-in_err-unbegun-clause-none : goal.returns-in_err-unbegun-clause-none
returns-in_err-unbegun-clause-none c = λ none.
    let two = two_read c.args.text.now c.in_ok-commits.rest.now c.in_ok-aborts.rest.now c.in_ok-commits.commits c.in_ok-aborts.aborts c.in_ok-commits.ensures.number c.in_ok-aborts.ensures.number in
    no_unbegun c.args.text.now c.in_ok-aborts.rest.now c.in_ok-held.rest.now c.in_ok-commits.commits c.in_ok-aborts.aborts c.in_ok-held.held two c.in_ok-held.ensures.number (c.in_err-unbegun.ensures.none refl)

pub returns-in_err-rest_after-clause-none : goal.returns-in_err-rest_after-clause-none
returns-in_err-rest_after-clause-none c = λ none.
    let two = two_read c.args.text.now c.in_ok-commits.rest.now c.in_ok-aborts.rest.now c.in_ok-commits.commits c.in_ok-aborts.aborts c.in_ok-commits.ensures.number c.in_ok-aborts.ensures.number in
    let four = four_read c.args.text.now c.in_ok-aborts.rest.now c.in_ok-held.rest.now c.in_ok-unbegun.rest.now c.in_ok-commits.commits c.in_ok-aborts.aborts c.in_ok-held.held c.in_ok-unbegun.unbegun two c.in_ok-held.ensures.number c.in_ok-unbegun.ensures.number in
    no_messages c.args.text.now c.in_ok-unbegun.rest.now c.in_ok-commits.commits c.in_ok-aborts.aborts c.in_ok-held.held c.in_ok-unbegun.unbegun four (c.in_err-rest_after.ensures.none refl)

pub returns-in_err-messages-clause-none : goal.returns-in_err-messages-clause-none
returns-in_err-messages-clause-none c = λ none.
    let two = two_read c.args.text.now c.in_ok-commits.rest.now c.in_ok-aborts.rest.now c.in_ok-commits.commits c.in_ok-aborts.aborts c.in_ok-commits.ensures.number c.in_ok-aborts.ensures.number in
    let four = four_read c.args.text.now c.in_ok-aborts.rest.now c.in_ok-held.rest.now c.in_ok-unbegun.rest.now c.in_ok-commits.commits c.in_ok-aborts.aborts c.in_ok-held.held c.in_ok-unbegun.unbegun two c.in_ok-held.ensures.number c.in_ok-unbegun.ensures.number in
    no_last c.args.text.now c.in_ok-unbegun.rest.now c.in_ok-rest_after.field-0.now c.in_ok-commits.commits c.in_ok-aborts.aborts c.in_ok-held.held c.in_ok-unbegun.unbegun four c.in_ok-rest_after.ensures.rest (c.in_err-messages.ensures.none refl)

pub returns-in-Some-clause-numbers : goal.returns-in-Some-clause-numbers
returns-in-Some-clause-numbers c =
    let two = two_read c.args.text.now c.in_ok-commits.rest.now c.in_ok-aborts.rest.now c.in_ok-commits.commits c.in_ok-aborts.aborts c.in_ok-commits.ensures.number c.in_ok-aborts.ensures.number in
    let four = four_read c.args.text.now c.in_ok-aborts.rest.now c.in_ok-held.rest.now c.in_ok-unbegun.rest.now c.in_ok-commits.commits c.in_ok-aborts.aborts c.in_ok-held.held c.in_ok-unbegun.unbegun two c.in_ok-held.ensures.number c.in_ok-unbegun.ensures.number in
    numbers_read c.args.text.now c.in_ok-unbegun.rest.now c.in_ok-rest_after.field-0.now c.in_ok-commits.commits c.in_ok-aborts.aborts c.in_ok-held.held c.in_ok-unbegun.unbegun c.in_ok-messages.messages c.in-Some.commits c.in-Some.aborts c.in-Some.field-0-0-1.0 c.in-Some.field-0-0-1.1 c.in-Some.field-0-1 four
    c.in_ok-rest_after.ensures.rest c.in_ok-messages.ensures.number
    (ap (λ o. option_zip (option_zip o (option_zip c.in_ok-held.held c.in_ok-unbegun.unbegun)) c.in_ok-messages.messages) (sym c.zip.ensures) ∙ (ap (λ o. option_zip (option_zip c.zip.result o) c.in_ok-messages.messages) (sym c.zip-2.ensures) ∙ (ap (λ o. option_zip o c.in_ok-messages.messages) (sym c.zip-3.ensures) ∙ (sym c.zip-4.ensures ∙ c.in-Some.is))))

pub returns-in-None-clause-numbers : goal.returns-in-None-clause-numbers
returns-in-None-clause-numbers c =
    let two = two_read c.args.text.now c.in_ok-commits.rest.now c.in_ok-aborts.rest.now c.in_ok-commits.commits c.in_ok-aborts.aborts c.in_ok-commits.ensures.number c.in_ok-aborts.ensures.number in
    let four = four_read c.args.text.now c.in_ok-aborts.rest.now c.in_ok-held.rest.now c.in_ok-unbegun.rest.now c.in_ok-commits.commits c.in_ok-aborts.aborts c.in_ok-held.held c.in_ok-unbegun.unbegun two c.in_ok-held.ensures.number c.in_ok-unbegun.ensures.number in
    numbers_wide c.args.text.now c.in_ok-unbegun.rest.now c.in_ok-rest_after.field-0.now c.in_ok-commits.commits c.in_ok-aborts.aborts c.in_ok-held.held c.in_ok-unbegun.unbegun c.in_ok-messages.messages four
    c.in_ok-rest_after.ensures.rest c.in_ok-messages.ensures.number
    (ap (λ o. option_zip (option_zip o (option_zip c.in_ok-held.held c.in_ok-unbegun.unbegun)) c.in_ok-messages.messages) (sym c.zip.ensures) ∙ (ap (λ o. option_zip (option_zip c.zip.result o) c.in_ok-messages.messages) (sym c.zip-2.ensures) ∙ (ap (λ o. option_zip o c.in_ok-messages.messages) (sym c.zip-3.ensures) ∙ (sym c.zip-4.ensures ∙ c.in-None.is))))

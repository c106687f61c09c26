use Rattle.std.proofs.Common.{[], refl, sym, ◌∙◌, ◌∷◌}
use Rattle.std.proofs.lemmas.List.{append_cancel_left}
use Rattle.history_reading.proofs.Spelled.CausesRead.{late_lost, late_no_word, late_one_word, late_read}
use Rattle.history_reading.proofs.causes.read_late.Goals as goal

pub returns-in_err-by-clause-none : goal.returns-in_err-by-clause-none
returns-in_err-by-clause-none c = λ none. late_one_word c.args.text.now (c.in_err-by.ensures.none refl)

pub returns-in_err-by-2-clause-none : goal.returns-in_err-by-2-clause-none
returns-in_err-by-2-clause-none c = λ none. late_no_word c.args.text.now c.in_ok-by.by.now c.in_ok-by.fc.now c.in_ok-by.ensures.parts c.in_ok-by.ensures.first (λ by fc x y. c.in_err-by-2.ensures.none refl by x)

pub returns-in_err-rest_after-clause-none : goal.returns-in_err-rest_after-clause-none
returns-in_err-rest_after-clause-none c = λ none.
    late_no_word c.args.text.now c.in_ok-by.by.now c.in_ok-by.fc.now c.in_ok-by.ensures.parts c.in_ok-by.ensures.first (λ by fc x y. c.in_err-rest_after.ensures.none refl _ y)

pub returns-in_err-fc-clause-none : goal.returns-in_err-fc-clause-none
returns-in_err-fc-clause-none c = λ none.
    late_no_word c.args.text.now c.in_ok-by.by.now c.in_ok-by.fc.now c.in_ok-by.ensures.parts c.in_ok-by.ensures.first
    (λ by fc x y. c.in_err-fc.ensures.none refl fc.0 (append_cancel_left (102 ∷ 99 ∷ 61 ∷ []) _ _ (sym c.in_ok-rest_after.ensures.rest ∙ y)))

pub returns-in-Some-clause-cause : goal.returns-in-Some-clause-cause
returns-in-Some-clause-cause c =
    late_read c.args.scene.now c.args.text.now c.in_ok-by.by.now c.in_ok-by.fc.now c.in_ok-rest_after.field-0.now c.in_ok-by-2.by c.in_ok-fc.fc c.in-Some.by c.in-Some.fc c.in_ok-by.ensures.parts c.in_ok-rest_after.ensures.rest
    (sym c.zip.ensures ∙ c.in-Some.is) c.in_ok-by-2.ensures.name c.in_ok-fc.ensures.time

pub returns-in-None-clause-cause : goal.returns-in-None-clause-cause
returns-in-None-clause-cause c =
    late_lost c.args.scene.now c.args.text.now c.in_ok-by.by.now c.in_ok-by.fc.now c.in_ok-rest_after.field-0.now c.in_ok-by-2.by c.in_ok-fc.fc c.in_ok-by.ensures.parts c.in_ok-rest_after.ensures.rest
    (sym c.zip.ensures ∙ c.in-None.is) c.in_ok-by-2.ensures.name c.in_ok-fc.ensures.time

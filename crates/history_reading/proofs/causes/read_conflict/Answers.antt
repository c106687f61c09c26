use Rattle.std.proofs.Common.{[], ap, refl, sym, ◌∙◌, ◌∷◌}
use Rattle.std.proofs.lemmas.List.{append_cancel_left}
use Rattle.std.specs.Option.{option_zip}
use Rattle.history_reading.proofs.Spelled.CausesRead.{conflict_lost, conflict_no_word, conflict_one_word, conflict_read, conflict_two_words, conflict_words}
use Rattle.history_reading.proofs.causes.read_conflict.Goals as goal

pub returns-in_err-by-clause-none : goal.returns-in_err-by-clause-none
returns-in_err-by-clause-none c = λ none. conflict_one_word c.args.text.now (c.in_err-by.ensures.none refl)

pub returns-in_err-key-clause-none : goal.returns-in_err-key-clause-none
returns-in_err-key-clause-none c = λ none. conflict_two_words c.args.text.now c.in_ok-by.by.now c.in_ok-by.rest.now c.in_ok-by.ensures.parts c.in_ok-by.ensures.first (c.in_err-key.ensures.none refl)

pub returns-in_err-by-2-clause-none : goal.returns-in_err-by-2-clause-none
returns-in_err-by-2-clause-none c = λ none.
    conflict_no_word c.args.text.now c.in_ok-by.by.now c.in_ok-by.rest.now c.in_ok-key.key.now c.in_ok-key.node.now c.in_ok-by.ensures.parts c.in_ok-by.ensures.first c.in_ok-key.ensures.parts c.in_ok-key.ensures.first
    (λ by k n f x y z. c.in_err-by-2.ensures.none refl by x)

pub returns-in_err-key-2-clause-none : goal.returns-in_err-key-2-clause-none
returns-in_err-key-2-clause-none c = λ none.
    conflict_no_word c.args.text.now c.in_ok-by.by.now c.in_ok-by.rest.now c.in_ok-key.key.now c.in_ok-key.node.now c.in_ok-by.ensures.parts c.in_ok-by.ensures.first c.in_ok-key.ensures.parts c.in_ok-key.ensures.first
    (λ by k n f x y z. c.in_err-key-2.ensures.none refl k.0 k.1 f y)

pub returns-in_err-rest_after-clause-none : goal.returns-in_err-rest_after-clause-none
returns-in_err-rest_after-clause-none c = λ none.
    conflict_no_word c.args.text.now c.in_ok-by.by.now c.in_ok-by.rest.now c.in_ok-key.key.now c.in_ok-key.node.now c.in_ok-by.ensures.parts c.in_ok-by.ensures.first c.in_ok-key.ensures.parts c.in_ok-key.ensures.first
    (λ by k n f x y z. c.in_err-rest_after.ensures.none refl _ z)

pub returns-in_err-node-clause-none : goal.returns-in_err-node-clause-none
returns-in_err-node-clause-none c = λ none.
    conflict_no_word c.args.text.now c.in_ok-by.by.now c.in_ok-by.rest.now c.in_ok-key.key.now c.in_ok-key.node.now c.in_ok-by.ensures.parts c.in_ok-by.ensures.first c.in_ok-key.ensures.parts c.in_ok-key.ensures.first
    (λ by k n f x y z. c.in_err-node.ensures.none refl n.0 (append_cancel_left (97 ∷ 116 ∷ 61 ∷ []) _ _ (sym c.in_ok-rest_after.ensures.rest ∙ z)))

pub returns-in-Some-clause-cause : goal.returns-in-Some-clause-cause
returns-in-Some-clause-cause c =
    conflict_read c.args.scene.now c.args.text.now c.in_ok-by.by.now c.in_ok-key.key.now c.in_ok-rest_after.field-0.now c.in_ok-by-2.by c.in_ok-key-2.key c.in_ok-node.node c.in-Some.by c.in-Some.key c.in-Some.node
    (conflict_words c.args.scene.now c.args.text.now c.in_ok-by.by.now c.in_ok-by.rest.now c.in_ok-key.key.now c.in_ok-key.node.now c.in_ok-rest_after.field-0.now c.in_ok-by.ensures.parts c.in_ok-key.ensures.parts c.in_ok-rest_after.ensures.rest)
    (ap (λ o. option_zip o c.in_ok-node.node) (sym c.zip.ensures) ∙ (sym c.zip-2.ensures ∙ c.in-Some.is)) c.in_ok-by-2.ensures.name c.in_ok-key-2.ensures.key c.in_ok-node.ensures.node

pub returns-in-None-clause-cause : goal.returns-in-None-clause-cause
returns-in-None-clause-cause c =
    conflict_lost c.args.scene.now c.args.text.now c.in_ok-by.by.now c.in_ok-key.key.now c.in_ok-rest_after.field-0.now c.in_ok-by-2.by c.in_ok-key-2.key c.in_ok-node.node
    (conflict_words c.args.scene.now c.args.text.now c.in_ok-by.by.now c.in_ok-by.rest.now c.in_ok-key.key.now c.in_ok-key.node.now c.in_ok-rest_after.field-0.now c.in_ok-by.ensures.parts c.in_ok-key.ensures.parts c.in_ok-rest_after.ensures.rest)
    (ap (λ o. option_zip o c.in_ok-node.node) (sym c.zip.ensures) ∙ (sym c.zip-2.ensures ∙ c.in-None.is)) c.in_ok-by-2.ensures.name c.in_ok-key-2.ensures.key c.in_ok-node.ensures.node

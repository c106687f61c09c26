use Rattle.std.proofs.Common.{refl, sym, ◌∙◌}
use Rattle.history_reading.proofs.Spelled.GetsRead.{get_lost, get_no_sign, get_read, no_get_key, no_get_value}
use Rattle.history_reading.proofs.gets.read_get.Goals as goal

pub returns-in_err-key-clause-none : goal.returns-in_err-key-clause-none
returns-in_err-key-clause-none c = λ none. get_no_sign c.args.text.now (c.in_err-key.ensures.none refl)

pub returns-in_err-key-2-clause-none : goal.returns-in_err-key-2-clause-none
returns-in_err-key-2-clause-none c = λ none. no_get_key c.args.text.now c.in_ok-key.key.now c.in_ok-key.value.now c.in_ok-key.ensures.parts c.in_ok-key.ensures.first (c.in_err-key-2.ensures.none refl)

pub returns-in_err-value-clause-none : goal.returns-in_err-value-clause-none
returns-in_err-value-clause-none c = λ none. no_get_value c.args.text.now c.in_ok-key.key.now c.in_ok-key.value.now c.in_ok-key.ensures.parts c.in_ok-key.ensures.first (c.in_err-value.ensures.none refl)

pub returns-in-Some-clause-get : goal.returns-in-Some-clause-get
returns-in-Some-clause-get c =
    get_read c.args.scene.now c.args.text.now c.in_ok-key.key.now c.in_ok-key.value.now c.in_ok-key-2.key c.in_ok-value.value (c.in-Some.key, c.in-Some.value) c.in_ok-key.ensures.parts (sym c.zip.ensures ∙ c.in-Some.is) c.in_ok-key-2.ensures.key
    c.in_ok-value.ensures.value

pub returns-in-None-clause-get : goal.returns-in-None-clause-get
returns-in-None-clause-get c =
    get_lost c.args.scene.now c.args.text.now c.in_ok-key.key.now c.in_ok-key.value.now c.in_ok-key-2.key c.in_ok-value.value c.in_ok-key.ensures.parts (sym c.zip.ensures ∙ c.in-None.is) c.in_ok-key-2.ensures.key c.in_ok-value.ensures.value

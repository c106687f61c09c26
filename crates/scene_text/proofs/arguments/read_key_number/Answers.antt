use Rattle.std.proofs.Common.{refl}
use Rattle.scene_text.proofs.Spelling.Arguments.{key_number_no_key, key_number_no_number}
use Rattle.scene_text.proofs.arguments.read_key_number.Goals as goal

pub returns-in_err-name-clause-none : goal.returns-in_err-name-clause-none
returns-in_err-name-clause-none c = λ none. key_number_no_key c.args.text.now c.in_ok-key.key.now c.in_ok-key.number.now c.in_ok-key.ensures.parts c.in_ok-key.ensures.first (c.in_err-name.ensures.none refl)

pub returns-in_err-number-clause-none : goal.returns-in_err-number-clause-none
returns-in_err-number-clause-none c = λ none. key_number_no_number c.args.text.now c.in_ok-key.key.now c.in_ok-key.number.now c.in_ok-key.ensures.parts c.in_ok-key.ensures.first (c.in_err-number.ensures.none refl)

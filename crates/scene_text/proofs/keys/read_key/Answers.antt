use Rattle.std.proofs.Common.{refl, subst}
use Rattle.scene_text.proofs.Spelling.KeyWords.{key_no_name, key_no_number, key_too_great}
use Rattle.scene_text.specs.LineReading.{Spells}
use Rattle.scene_text.proofs.keys.read_key.Goals as goal

pub returns-in_err-part-clause-none : goal.returns-in_err-part-clause-none
returns-in_err-part-clause-none c = λ none.
    key_no_number c.args.text.now c.in_ok-name.name.now c.in_ok-name.part.now c.in_ok-name.ensures.parts c.in_ok-name.ensures.first (c.in_err-part.ensures.none refl)

pub returns-in_err-name-2-clause-none : goal.returns-in_err-name-2-clause-none
returns-in_err-name-2-clause-none c = λ none.
    key_no_name c.args.text.now c.in_ok-name.name.now c.in_ok-name.part.now c.in_ok-name.ensures.parts c.in_ok-name.ensures.first (c.in_err-name-2.ensures.none refl)

pub returns-in-None-clause-key : goal.returns-in-None-clause-key
returns-in-None-clause-key c =
    key_too_great c.args.text.now c.in_ok-name.name.now c.in_ok-name.part.now c.in_ok-name-2.name c.in_ok-name.ensures.parts c.in_ok-name-2.ensures.name c.in_ok-name-2.ensures.named
    (subst (Spells 256 c.in_ok-name.part.now) c.in-None.is c.in_ok-part.ensures.number)

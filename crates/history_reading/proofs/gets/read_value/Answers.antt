use Rattle.std.proofs.Common.{Some, refl, subst, sym}
use Rattle.std.proofs.lemmas.Int.{to_z-of_z}
use Rattle.std.specs.Int.{w64}
use Rattle.history_reading.specs.Parts.{SpellsValue}
use Rattle.str_base.specs.declared.names.Value.TheVariants.{Num}
use Rattle.history_reading.proofs.Spelled.GetsRead.{no_value, none_value, number_read, number_wide, signed_fits}
use Rattle.history_reading.proofs.gets.read_value.Goals as goal

pub returns-then-is_same-clause-value : goal.returns-then-is_same-clause-value
returns-then-is_same-clause-value c = none_value c.args.scene.now c.args.text.now (c.is_same.ensures.0 c.if-is_same.true)

pub returns-in-Some-Some-clause-value : goal.returns-in-Some-Some-clause-value
returns-in-Some-Some-clause-value c =
    let fits = signed_fits c.args.text.now c.in-Some-Some.field-0 c.in-Some-Some.number c.in-Some-Some.field-0-is c.in-Some-Some.ensures.number in
    subst (λ z. SpellsValue c.args.scene.now.keys c.args.text.now (Some (Num z))) (sym (to_z-of_z w64 c.in-Some-Some.number fits))
    (number_read c.args.scene.now c.args.text.now c.in-Some-Some.field-0 c.in-Some-Some.number c.in-Some-Some.field-0-is c.in-Some-Some.ensures.number)

pub returns-in-Some-None-clause-value : goal.returns-in-Some-None-clause-value
returns-in-Some-None-clause-value c = number_wide c.args.scene.now c.args.text.now c.in-Some-None.field-0 c.in-Some-None.field-0-is c.in-Some-None.ensures.number

pub returns-in-None-clause-none : goal.returns-in-None-clause-none
returns-in-None-clause-none c = λ none. no_value c.args.text.now (λ e. cc (c.is_same.ensures.1 e, c.if-is_same.false)) (c.in-None.ensures.none refl) (c.read_known_bytes.ensures.none none)

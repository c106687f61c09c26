use Rattle.std.proofs.Common.{Some, ap, arith, length, slice_get, subst, sym, ◌+◌, ◌<◌, ◌∙◌, ◌≡◌}
use Rattle.std.proofs.lemmas.Grind.{common_steps}
use Rattle.std.proofs.lemmas.List.{length-map}
use Rattle.history_reading.proofs.Spelled.PlacesFound.{ArePlacesTo, all_places, at_map, no_places, one_place}
use Rattle.history_reading.specs.Places.{byte_texts}
use Rattle.str_scene.specs.Spelling.{text_spelled}
use Rattle.history_reading.proofs.key_texts.byte_places.Goals as goal

pub loop-number-init : goal.loop-number-init
loop-number-init c = subst (ArePlacesTo (byte_texts c.args.table.now) 0) (sym c.new-places.ensures) (no_places (byte_texts c.args.table.now))

pub loop-number-preserved : goal.loop-number-preserved
loop-number-preserved c =
    let within : c.loop-number.number < length c.args.table.now.texts = omega (arith, c.loop-number-test.true, c.texts-number-end.ensures.value) in
    let spelled : text_spelled (slice_get c.args.table.now.texts c.loop-number.number) ≡ c.push_text.new.out.items = grind (arith, common_steps) in
    subst (ArePlacesTo (byte_texts c.args.table.now) (c.loop-number.number + 1)) (sym c.in_ok-put.ensures)
    (one_place (byte_texts c.args.table.now) c.loop-number.number c.loop-number.places c.push_text.new.out.items c.loop-number.invariant
    (at_map text_spelled c.args.table.now.texts c.loop-number.number within ∙ ap Some spelled))

pub returns : goal.returns
returns c =
    all_places (byte_texts c.args.table.now) c.loop-number.number c.loop-number.places
    (omega (arith, c.loop-number-test.false, c.texts-number-end.ensures.value, length-map c.args.table.now.texts (λ bytes. text_spelled (Some bytes)))) c.loop-number.invariant

use Rattle.std.proofs.Common.{Some, ap, arith, length, slice_get, subst, sym, ◌+◌, ◌<◌, ◌∙◌, ◌≡◌}
use Rattle.std.proofs.lemmas.Grind.{common_steps}
use Rattle.std.proofs.lemmas.List.{length-map}
use Rattle.history_reading.proofs.Spelled.PlacesFound.{ArePlacesTo, all_places, at_map, no_places, one_place}
use Rattle.history_reading.specs.Places.{key_texts}
use Rattle.str_scene.specs.Spelling.{name_spelled}
use Rattle.history_reading.proofs.key_texts.key_places.Goals as goal

pub loop-number-init : goal.loop-number-init
loop-number-init c = subst (ArePlacesTo (key_texts c.args.table.now) 0) (sym c.new-places.ensures) (no_places (key_texts c.args.table.now))

pub loop-number-preserved : goal.loop-number-preserved
loop-number-preserved c =
    let within : c.loop-number.number < length c.args.table.now.names = omega (arith, c.loop-number-test.true, c.len-number-end.ensures.value) in
    let spelled : name_spelled (slice_get c.args.table.now.names c.loop-number.number) ≡ c.push_key.new.out.items = grind (arith, common_steps) in
    subst (ArePlacesTo (key_texts c.args.table.now) (c.loop-number.number + 1)) (sym c.in_ok-put.ensures)
    (one_place (key_texts c.args.table.now) c.loop-number.number c.loop-number.places c.push_key.new.out.items c.loop-number.invariant
    (at_map name_spelled c.args.table.now.names c.loop-number.number within ∙ ap Some spelled))

pub returns : goal.returns
returns c =
    all_places (key_texts c.args.table.now) c.loop-number.number c.loop-number.places
    (omega (arith, c.loop-number-test.false, c.len-number-end.ensures.value, length-map c.args.table.now.names (λ key. name_spelled (Some key)))) c.loop-number.invariant

use Rattle.std.proofs.Common.{◌-◌, ◌∙◌}
use Rattle.scene_gen.proofs.Steps.{after_scripts_end, after_scripts_next, scripts_end, scripts_next}
use Rattle.scene_gen.proofs.Rooms.{next_drawn, next_script, scripts_take}
use Rattle.scene_gen.specs.Made.{made_scripts}
use Rattle.scene_gen.proofs.made.add_scripts.Goals as goal

pub loop-place-preserved : goal.loop-place-preserved
loop-place-preserved c = record {
  built = scripts_next 25 c.loop-place._place c.loop-place.draws c.script-script.new.self c.as_slice.result.now c.loop-place.build c.add_script.new.build _ c.loop-place-test.true
      (c.as_slice.ensures.items ∙ c.script-script.ensures.value) c.in_ok-add_script.ensures.built c.script-script.ensures.rest c.loop-place.invariant.built;
  rest = after_scripts_next 25 c.loop-place._place c.loop-place.draws c.script-script.new.self _ c.loop-place-test.true c.script-script.ensures.rest c.loop-place.invariant.rest;
}

pub returns-clause-built : goal.returns-clause-built
returns-clause-built c = scripts_end 25 c.loop-place._place c.loop-place.draws c.loop-place.build _ c.loop-place-test.false c.loop-place.invariant.built

pub returns-clause-rest : goal.returns-clause-rest
returns-clause-rest c = after_scripts_end 25 c.loop-place._place c.loop-place.draws _ c.loop-place-test.false c.loop-place.invariant.rest

pub add_script-requires-clause-drawn : goal.add_script-requires-clause-drawn
add_script-requires-clause-drawn c = next_drawn c.as_slice.result.now c.loop-place.draws (c.as_slice.ensures.items ∙ c.script-script.ensures.value)

pub add_script-requires-clause-place : goal.add_script-requires-clause-place
add_script-requires-clause-place c =
    scripts_take (made_scripts (25 - c.loop-place._place) c.loop-place.draws) (made_scripts 25 c.args.draws.now) c.loop-place.build c.args.build.now c.loop-place.invariant.built c.requires.place

pub add_script-requires-clause-room : goal.add_script-requires-clause-room
add_script-requires-clause-room c =
    next_script 25 c.loop-place._place c.loop-place.draws c.as_slice.result.now c.loop-place.build _ c.loop-place-test.true (c.as_slice.ensures.items ∙ c.script-script.ensures.value)
    c.loop-place.invariant.built c.requires.room

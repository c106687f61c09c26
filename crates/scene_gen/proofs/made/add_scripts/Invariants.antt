use Rattle.std.proofs.Common.{◌-◌, ◌≡◌}
use Rattle.scene_gen.specs.Building.{with_scripts}
use Rattle.scene_gen.specs.Made.{after_scripts, made_scripts}
use Rattle.scene_gen.proofs.made.add_scripts.Given as goal

abbrev pub invariant-loop-place : goal.invariant-loop-place
invariant-loop-place l = record {
  built : with_scripts (made_scripts (25 - l._place) l.draws) l.build ≡ with_scripts (made_scripts 25 l.fn.draws) l.fn.build;
  rest : after_scripts (25 - l._place) l.draws ≡ after_scripts 25 l.fn.draws;
}

use Rattle.std.proofs.Common.{◌+◌, ◌-◌, ◌≡◌}
use Rattle.scene_gen.specs.Building.{with_sessions}
use Rattle.scene_gen.specs.Made.{after_sessions, made_sessions}
use Rattle.scene_gen.proofs.made.add_sessions.Given as goal

abbrev pub invariant-loop-place : goal.invariant-loop-place
invariant-loop-place l = record {
  built : with_sessions (made_sessions (12 - l.place) (l.place + 1) l.draws) l.build ≡ with_sessions (made_sessions 12 1 l.fn.draws) l.fn.build;
  rest : after_sessions (12 - l.place) l.draws ≡ after_sessions 12 l.fn.draws;
}

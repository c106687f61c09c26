use Rattle.std.proofs.Common.{◌+◌, ◌-◌, ◌≡◌}
use Rattle.scene_gen.specs.Building.{with_rows}
use Rattle.scene_gen.specs.Made.{made_rows}
use Rattle.scene_gen.proofs.made.add_parts.Given as goal

abbrev pub invariant-loop-place : goal.invariant-loop-place
invariant-loop-place l = with_rows (made_rows (6 - l.place) (l.place + 1)) l.build ≡ with_rows (made_rows 6 1) l.fn.build

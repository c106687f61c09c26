use Rattle.std.proofs.Common.{◌+◌, ◌-◌, ◌≡◌}
use Rattle.scene_gen.specs.Building.{with_entries}
use Rattle.scene_gen.specs.Made.{made_entries}
use Rattle.scene_gen.proofs.made.add_entries.Given as goal

abbrev pub invariant-loop-place : goal.invariant-loop-place
invariant-loop-place l = with_entries (made_entries (6000 - l.place) (l.place + 1) l.draws) l.build ≡ with_entries (made_entries 6000 1 l.fn.draws) l.fn.build

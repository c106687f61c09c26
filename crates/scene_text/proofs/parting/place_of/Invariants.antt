use Rattle.std.specs.List.{slice_range}
use Rattle.std.specs.Prelude.{true, ◌≡◌}
use Rattle.scene_text.specs.LineReading.{is_without}
use Rattle.scene_text.proofs.parting.place_of.Given as goal

abbrev pub invariant-loop-i : goal.invariant-loop-i
invariant-loop-i l = is_without l.byte (slice_range l.bytes l.start l.i) ≡ true

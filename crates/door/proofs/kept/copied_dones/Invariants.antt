use Rattle.std.proofs.Common.{◌≡◌, take}
use Rattle.door.proofs.kept.copied_dones.Given as goal

abbrev pub invariant-loop-done : goal.invariant-loop-done
invariant-loop-done l = l.copy.items ≡ take l.done-index l.dones

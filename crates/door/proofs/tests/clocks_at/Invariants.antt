use Rattle.std.proofs.Common.{length, ◌≡◌}
use Rattle.door.proofs.tests.clocks_at.Given as goal

abbrev pub invariant-loop-node : goal.invariant-loop-node
invariant-loop-node l = length l.clocks.items ≡ l._node

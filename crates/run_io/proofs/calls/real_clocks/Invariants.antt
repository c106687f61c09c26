use Rattle.std.proofs.Common.{length, ◌≡◌}
use Rattle.run_io.proofs.calls.real_clocks.Given as goal

abbrev pub invariant-loop-node : goal.invariant-loop-node
invariant-loop-node g l = length l.clocks.items ≡ l._node

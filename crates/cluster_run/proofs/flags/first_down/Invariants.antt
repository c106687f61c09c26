use Rattle.cluster_run.specs.Flags.{AreUp}
use Rattle.cluster_run.proofs.flags.first_down.Given as goal

abbrev pub invariant-loop-i : goal.invariant-loop-i
invariant-loop-i l = AreUp l.flags l.i

use Rattle.node_core.proofs.Waiting.SweepSteps.{SweepAt}
use Rattle.node_core.proofs.work.Work.sweep.Given as goal

abbrev pub invariant-loop-n : goal.invariant-loop-n
invariant-loop-n l = SweepAt l.fn.self l.waiting l.n l.j l.self

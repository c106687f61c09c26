use Rattle.node_core.proofs.PassTurns.GateSteps.{GatesAt}
use Rattle.node_core.proofs.PassTurns.GatesOver.{asks_left}
use Rattle.node_core.proofs.work.Work.gates.Given as goal

abbrev pub invariant-loop-said : goal.invariant-loop-said
invariant-loop-said l = GatesAt l.fn.self l.fn.i l.fn.lc.0 l.self l.said

abbrev pub decreases-loop-said : goal.decreases-loop-said
decreases-loop-said l = asks_left l.self.here l.i l.self.doing.view

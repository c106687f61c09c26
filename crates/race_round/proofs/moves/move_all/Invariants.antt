use Rattle.race_round.proofs.ClientSteps.{MovesSo}
use Rattle.race_round.specs.Nodes.{seat_of}
use Rattle.race_round.proofs.moves.move_all.Given as goal

abbrev pub invariant-loop-place : goal.invariant-loop-place
invariant-loop-place g l = MovesSo l.place (g.C.Clock.given l.initial.n.clock) (g.C.Clock.given l.n.clock) (seat_of l.initial.n) (seat_of l.n)

use Rattle.std.specs.Prelude.{◌≡◌}
use Rattle.race_round.proofs.Takings.{TakesSo}
use Rattle.race_round.specs.Nodes.{seat_of}
use Rattle.race_round.proofs.takes.take_some.Given as goal

abbrev pub invariant-loop-step : goal.invariant-loop-step
invariant-loop-step g l = record {
  took : TakesSo l._step l.sender (seat_of l.initial.n) (seat_of l.n);
  clock : l.n.clock ≡ l.initial.n.clock;
}

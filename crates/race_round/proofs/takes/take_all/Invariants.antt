use Rattle.std.specs.Prelude.{◌≡◌}
use Rattle.race_round.specs.Nodes.{TookUpTo, seat_of}
use Rattle.race_round.proofs.takes.take_all.Given as goal

abbrev pub invariant-loop-place : goal.invariant-loop-place
invariant-loop-place g l = record {
  took : TookUpTo l.place (seat_of l.initial.n) (seat_of l.n);
  clock : l.n.clock ≡ l.initial.n.clock;
}

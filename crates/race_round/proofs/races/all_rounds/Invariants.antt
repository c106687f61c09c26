use Rattle.race_round.specs.Nodes.{AreReadings, HasGoneOn}
use Rattle.race_round.proofs.races.all_rounds.Given as goal

abbrev pub invariant-loop-round : goal.invariant-loop-round
invariant-loop-round g l = record {
  gone : HasGoneOn l._round l.initial.nodes l.nodes;
  readings : AreReadings g.C.Clock.given l.initial.nodes l.nodes;
}

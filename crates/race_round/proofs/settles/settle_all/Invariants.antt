use Rattle.race_round.specs.Settling.{SettledTo}
use Rattle.race_round.proofs.settles.settle_all.Given as goal

abbrev pub invariant-loop-high : goal.invariant-loop-high
invariant-loop-high g l = SettledTo l.ok l.high l.initial.nodes l.nodes

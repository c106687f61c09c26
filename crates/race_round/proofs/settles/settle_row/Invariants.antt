use Rattle.race_round.specs.Settling.{RowSettled}
use Rattle.race_round.proofs.settles.settle_row.Given as goal

abbrev pub invariant-loop-low : goal.invariant-loop-low
invariant-loop-low g l = RowSettled l.ok l.low l.high l.initial.nodes l.nodes

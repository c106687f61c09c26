use Rattle.std.proofs.Common.{arith}
use Rattle.race_round.proofs.turns.turns.Goals as goal

pub returns : goal.returns
returns g c i d lt = let ch = (c.for_each_mut.ensures i d lt).1 in grind arith

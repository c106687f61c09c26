use Rattle.std.proofs.Common.{arith, rules}
use Rattle.race_round.proofs.PairsSettled.{row_can, row_end, row_first, row_more}
use Rattle.race_round.proofs.settles.settle_row.Goals as goal

pub settle_places-requires-clause-can : goal.settle_places-requires-clause-can
settle_places-requires-clause-can g c d = row_can _ _ _ _ _ c.requires.met c.loop-low.invariant (omega arith) (search rules) d

pub loop-low-init : goal.loop-low-init
loop-low-init g c = row_first _ _

pub loop-low-preserved : goal.loop-low-preserved
loop-low-preserved g c = row_more _ _ _ _ _ _ _ _ c.requires.met (omega arith) (search rules) c.is_ok-ok.ensures.value c.loop-low.invariant c.settle_places.ensures

pub returns : goal.returns
returns g c = row_end _ _ _ _ _ (omega arith) c.loop-low.invariant

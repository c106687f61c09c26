use Rattle.std.proofs.Common.{arith}
use Rattle.race_round.proofs.PairsSettled.{all_end, all_first, all_more, met_still}
use Rattle.race_round.proofs.settles.settle_all.Goals as goal

pub settle_row-ok-requires-clause-met : goal.settle_row-ok-requires-clause-met
settle_row-ok-requires-clause-met g c = met_still _ _ _ _ c.requires c.loop-high.invariant

pub loop-high-init : goal.loop-high-init
loop-high-init g c = all_first _

pub loop-high-preserved : goal.loop-high-preserved
loop-high-preserved g c = all_more _ _ _ _ _ _ c.loop-high.invariant c.settle_row-ok.ensures

pub returns : goal.returns
returns g c = all_end _ _ _ _ _ (omega arith) c.loop-high.invariant

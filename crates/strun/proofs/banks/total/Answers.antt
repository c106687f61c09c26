use Rattle.std.proofs.Common.{FitsSigned, arith, rules, ◌<◌, ◌^◌}
use Rattle.std.specs.Int.{w64}
use Rattle.std.proofs.lemmas.Int.{wraps}
use Rattle.strun.proofs.Totals.{total_more}
use Rattle.strun.proofs.banks.total.Goals as goal

pub loop-got-preserved : goal.loop-got-preserved
loop-got-preserved c =
    let p : c.loop-got.sum-bits < 2 ^ 64 = first_of (search rules, omega arith, grind arith) in
    let f : FitsSigned w64 c.number-sum.result = first_of (search rules, search (rules, wraps), grind (arith, wraps)) in
    total_more c.args.gots.now c.loop-got.got-index _ c.loop-got.sum-bits c.number-sum.result c.loop-got-test.true p f c.loop-got.invariant c.number-sum.ensures

use Rattle.std.proofs.Common.{FitsSigned, ap, arith, rules, ◌<◌, ◌^◌}
use Rattle.std.specs.Int.{int_wrap, w64}
use Rattle.std.proofs.lemmas.Int.{wraps}
use Rattle.bank_book.specs.Tallies.{adds}
use Rattle.bank_book.proofs.WrappedSums.{wrapped_more}
use Rattle.bank_book.proofs.tallies.added.Goals as goal

pub loop-op-preserved : goal.loop-op-preserved
loop-op-preserved c =
    let p : c.loop-op.sum-bits < 2 ^ 64 = first_of (search rules, omega arith, grind arith) in
    let f : FitsSigned w64 c.adds-sum.result = first_of (search rules, search (rules, wraps), grind (arith, wraps)) in
    wrapped_more (adds c.args.key) c.args.ops.now c.loop-op.op-index _ c.loop-op.sum-bits c.adds-sum.result c.loop-op-test.true p f c.loop-op.invariant (ap (int_wrap w64) c.adds-sum.ensures)

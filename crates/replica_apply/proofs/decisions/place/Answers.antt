use Rattle.std.proofs.Common.{arith}
use Rattle.replica_apply.proofs.Placing.{all_placed, placed_shown}
use Rattle.str_model.specs.Acts.{pre_version}
use Rattle.replica_apply.proofs.decisions.place.Goals as goal

pub returns-clause-view : goal.returns-clause-view
returns-clause-view c d marks s =
    placed_shown c.args.a.now c.args.ts.0 d c.args.store.now.versions _ marks s
    (all_placed (pre_version c.args.a.now c.args.ts.0) c.as_slice-write-items.result.now c.loop-write.write-index _ _ (omega (arith, c.loop-write-test.false)) c.loop-write.invariant.rest)

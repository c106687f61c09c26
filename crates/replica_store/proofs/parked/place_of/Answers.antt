use Rattle.std.proofs.Common.{arith, sym, ◌∙◌}
use Rattle.replica_store.proofs.Parking.{found_held}
use Rattle.replica_store.proofs.parked.place_of.Goals as goal

pub returns-then-is_held-clause-some : goal.returns-then-is_held-clause-some
returns-then-is_held-clause-some c =
    (omega (arith, c.loop-i-test.true), found_held c.args.tx c.args.part c.args.waiters.now c.loop-i.i c.index-waiters-i.result (omega (arith, c.loop-i-test.true)) c.index-waiters-i.is (sym c.is_held.ensures ∙ c.if-is_held.true) c.loop-i.invariant)

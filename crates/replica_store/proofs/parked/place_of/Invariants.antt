use Rattle.std.proofs.Common.{drop, take, ◌++◌, ◌≡◌}
use Rattle.str_model.specs.Steps.{drop_held}
use Rattle.replica_store.proofs.parked.place_of.Given as goal

abbrev pub invariant-loop-i : goal.invariant-loop-i
invariant-loop-i l = drop_held l.tx l.part l.waiters ≡ take l.i l.waiters ++ drop_held l.tx l.part (drop l.i l.waiters)

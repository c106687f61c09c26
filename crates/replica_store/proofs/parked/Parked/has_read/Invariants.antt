use Rattle.std.proofs.Common.{drop, ◌≡◌}
use Rattle.std.specs.List.{list_any}
use Rattle.str_model.specs.Arrivals.{waits_read}
use Rattle.replica_store.proofs.parked.Parked.has_read.Given as goal

abbrev pub invariant-loop-waiter : goal.invariant-loop-waiter
invariant-loop-waiter l = list_any (waits_read l.tx l.key) (drop l.waiter-index l.waiter-items) ≡ list_any (waits_read l.tx l.key) l.self.waiters

use Rattle.std.proofs.Common.{drop, ◌≡◌}
use Rattle.std.specs.List.{list_any}
use Rattle.str_model.specs.Proposals.{holds_pair}
use Rattle.replica_store.proofs.parked.Parked.has.Given as goal

abbrev pub invariant-loop-waiter : goal.invariant-loop-waiter
invariant-loop-waiter l = list_any (holds_pair l.tx l.part) (drop l.waiter-index l.waiter-items) ≡ list_any (holds_pair l.tx l.part) l.self.waiters

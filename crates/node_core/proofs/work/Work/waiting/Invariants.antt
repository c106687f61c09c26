use Rattle.std.proofs.Common.{Some, length, slice_get, ℕ, ◌-◌, ◌<◌, ◌≡◌, ◌≤◌}
use Rattle.node_core.specs.Sizes.{IsSmallWaiter}
use Rattle.str_model.specs.declared.messages.Waiter.{Waiter}
use Rattle.node_core.proofs.work.Work.waiting.Given as goal

abbrev pub invariant-loop-waiter : goal.invariant-loop-waiter
invariant-loop-waiter l = record {
  within : l.n ≤ length l.self-inside.held.parked.waiters;
  small : (k : ℕ) (w : Waiter) → k < l.n → slice_get l.self-inside.held.parked.waiters k ≡ Some w → IsSmallWaiter w;
}

abbrev pub decreases-loop-waiter : goal.decreases-loop-waiter
decreases-loop-waiter l = length l.self-inside.held.parked.waiters - l.n

use Rattle.std.proofs.Common.{◌≡◌, ◌++◌, ◌+◌, ◌≤◌, length}
use Rattle.std.specs.VecDeque.{deque_len, deque_capacity}
use Rattle.rtrb.specs.Ring.{received, known_items, SameConsumer}
use Rattle.ring_links.proofs.moves.pour.Given as goal

abbrev pub invariant-loop : goal.invariant-loop
invariant-loop l =
    SameConsumer l.initial.from l.from
    × (received l.from ++ known_items l.from ≡ received l.initial.from ++ known_items l.initial.from)
    × (l.inbox.items ++ known_items l.from ≡ l.initial.inbox.items ++ known_items l.initial.from)
    × (length (known_items l.from) + l.counter ≡ l.count)
    × (deque_capacity l.inbox ≡ deque_capacity l.initial.inbox)
    × (length l.inbox.items + length (known_items l.from) ≤ deque_capacity l.inbox)
    × (deque_len l.inbox ≡ length l.inbox.items)

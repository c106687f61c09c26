use Rattle.std.proofs.Common.{◌≡◌, length}
use Rattle.ring_links.specs.Making.{AreJoined}
use Rattle.ring_links.proofs.makes.join_all.Given as goal

abbrev pub invariant-loop-place : goal.invariant-loop-place
invariant-loop-place l =
    AreJoined l.place l.initial.before.items l.before.items l.later
    × (l.later.node ≡ l.initial.later.node)
    × (l.place-end ≡ length l.initial.before.items)

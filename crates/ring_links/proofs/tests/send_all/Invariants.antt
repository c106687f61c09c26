use Rattle.std.proofs.Common.{◌+◌, ◌≤◌}
use Rattle.ring_links.specs.Links.{spare, SameLink}
use Rattle.ring_links.proofs.tests.send_all.Given as goal

abbrev pub invariant-loop-number : goal.invariant-loop-number
invariant-loop-number l = SameLink l.initial.link l.link × (l.count ≤ spare l.link + l.number)

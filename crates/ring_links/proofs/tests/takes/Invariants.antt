use Rattle.ring_links.specs.Links.{SameLink}
use Rattle.ring_links.proofs.tests.takes.Given as goal

abbrev pub invariant-loop-number : goal.invariant-loop-number
invariant-loop-number l = SameLink l.initial.link l.link

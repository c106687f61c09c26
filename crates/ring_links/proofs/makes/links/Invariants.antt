use Rattle.ring_links.specs.Ends.{AreEnds}
use Rattle.ring_links.proofs.makes.links.Given as goal

abbrev pub invariant-loop-before : goal.invariant-loop-before
invariant-loop-before l = AreEnds l.all.items l.before

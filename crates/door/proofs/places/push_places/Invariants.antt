use Rattle.std.proofs.Common.{◌≡◌, ◌++◌}
use Rattle.door.specs.Places.{places_in}
use Rattle.door.proofs.places.push_places.Given as goal

abbrev pub invariant-loop-number : goal.invariant-loop-number
invariant-loop-number l = l.places.items ≡ l.initial.places.items ++ places_in l.session.0 l.number

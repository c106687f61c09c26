use Rattle.std.proofs.Common.{◌≡◌, take}
use Rattle.door.specs.Places.{places_from}
use Rattle.door.proofs.places.places_of_node.Given as goal

abbrev pub invariant-loop-i : goal.invariant-loop-i
invariant-loop-i l = l.places.items ≡ places_from l.node 1 (take l.i l.scene.sessions)

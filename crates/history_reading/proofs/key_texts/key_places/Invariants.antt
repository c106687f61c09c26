use Rattle.history_reading.proofs.Spelled.PlacesFound.{ArePlacesTo}
use Rattle.history_reading.specs.Places.{key_texts}
use Rattle.history_reading.proofs.key_texts.key_places.Given as goal

abbrev pub invariant-loop-number : goal.invariant-loop-number
invariant-loop-number l = ArePlacesTo (key_texts l.table) l.number l.places

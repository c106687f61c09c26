-- What a worker has found at its places.
use Rattle.answer_board.specs.Entries.{answer_at}
use Rattle.answer_board.specs.declared.entries.Entry.{Entry}
use Rattle.door.specs.Acting.{EndsWith}
use Rattle.std.specs.Prelude.{Bool, List, None, Option, Some, [], length, slice_index_or, ℕ, ◌<◌, ◌∷◌, ◌≡◌}
use Rattle.str_model.specs.declared.messages.Answer.{Answer}
use Rattle.str_scene.specs.declared.names.Event.{Event}
use Rattle.str_scene.specs.declared.names.TxPlace.{TxPlace}
use mathlib.Core.List.{IsPrefix}

-- what was found at the place stands there in the list
pub record FoundThere (place : TxPlace) (o : Option Answer) (list : List Entry) : Type 0 where
  pub each : (a : Answer) → o ≡ Some a → answer_at place list ≡ Some a

-- what stands in the list at the place was found
pub record Full (place : TxPlace) (o : Option Answer) (list : List Entry) : Type 0 where
  pub each : (a : Answer) → answer_at place list ≡ Some a → o ≡ Some a

-- what was found at each place stands there in the list
pub record FoundAt (places : List TxPlace) (found : List (Option Answer)) (list : List Entry) : Type 0 where
  pub wide : length found ≡ length places
  pub each : (i : ℕ) (p : TxPlace) (o : Option Answer) → i < length places → FoundThere (slice_index_or places i p) (slice_index_or found i o) list

-- each answer that stands in the list at one of the first n places was found
pub record FullTo (n : ℕ) (places : List TxPlace) (found : List (Option Answer)) (list : List Entry) : Type 0 where
  pub each : (i : ℕ) (p : TxPlace) (o : Option Answer) → i < n → Full (slice_index_or places i p) (slice_index_or found i o) list

-- the event was done, and what stood at the places when it was done was found
pub record Acted (places : List TxPlace) (found : List (Option Answer)) (list : List Entry) (e : Event) : Type 0 where
  pub told : List Entry
  pub idle : Bool
  pub ends : EndsWith told e idle
  pub within : IsPrefix told list
  pub all : FullTo (length places) places found told

-- the answers among these
abbrev pub found_among : List (Option Answer) → List Answer
found_among [] = []
found_among (None ∷ os) = found_among os
found_among (Some a ∷ os) = a ∷ found_among os

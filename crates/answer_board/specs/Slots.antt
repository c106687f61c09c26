-- A slot for each place, which says at which position of a list the place's answer stands.
use Rattle.answer_board.specs.Entries.{answer_at}
use Rattle.answer_board.specs.Places.{MayAllFollow}
use Rattle.answer_board.specs.declared.entries.Entry.{Entry}
use Rattle.answer_board.specs.declared.entries.Entry.TheVariants.{Gave}
use Rattle.std.specs.Prelude.{List, None, Option, Some, [], length, map, replicate, slice_get, slice_set, suc, zero, ℕ, ◌≡◌}
use Rattle.str_model.specs.declared.messages.Answer.{Answer}
use Rattle.str_scene.specs.declared.names.TxPlace.{TxPlace}
use Rattle.str_scene.specs.Scenes.{Scene, nth, or_none}

-- an empty slot for each transaction
abbrev pub empty_rows : Scene → List (List (Option ℕ))
empty_rows scene = map (λ s. replicate (length s.txs) None) scene.sessions

-- the slot of a place
abbrev pub slot_at : List (List (Option ℕ)) → TxPlace → Option (Option ℕ)
slot_at rows p = nth (or_none (nth rows p.session.0)) p.index

-- the i-th, counted from 1, becomes x
abbrev pub set_nth : {X : Type 0} → List X → ℕ → X → List X
set_nth xs zero x = xs
set_nth xs (suc i) x = slice_set xs i x

-- the slot of the place has the position k
abbrev pub filled : List (List (Option ℕ)) → TxPlace → ℕ → List (List (Option ℕ))
filled rows p k = set_nth rows p.session.0 (set_nth (or_none (nth rows p.session.0)) p.index (Some k))

-- an empty slot says that no answer stands at the place, another one where it stands
abbrev pub Tells : List Entry → TxPlace → Option ℕ → Type 0
Tells items p None = answer_at p items ≡ None
Tells items p (Some k) = (a : Answer) × (slice_get items k ≡ Some (Gave a)) × (answer_at p items ≡ Some a)

-- the slots tell of each place, and each answer stands at a place of its own
pub record IsListing (rows : List (List (Option ℕ))) (items : List Entry) : Type 0 where
  pub tells : (p : TxPlace) (slot : Option ℕ) → slot_at rows p ≡ Some slot → Tells items p slot
  pub placed : MayAllFollow (map length rows) [] items

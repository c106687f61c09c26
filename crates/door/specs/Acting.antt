-- Which events and answers stand in a list of entries.
use Rattle.answer_board.specs.Entries.{answer_at, dones_of}
use Rattle.answer_board.specs.declared.entries.Entry.{Entry}
use Rattle.std.specs.Prelude.{Bool, List, Some, [], slice_get, ℕ, ◌++◌, ◌∷◌, ◌≡◌}
use Rattle.str_base.specs.Members.{In}
use Rattle.str_model.specs.declared.messages.Answer.{Answer}
use Rattle.str_model.specs.declared.names.Done.{Done}
use Rattle.str_scene.specs.declared.names.Event.{Event}

-- the last journal entry of the list is of this event, idle or not
pub record EndsWith (list : List Entry) (e : Event) (idle : Bool) : Type 0 where
  pub before : List Done
  pub answers : ℕ
  pub last : dones_of list ≡ before ++ record { event = e; idle = idle; answers = answers } ∷ []

-- the list has a journal entry of this event
pub record HasDone (list : List Entry) (e : Event) : Type 0 where
  pub done : Done
  pub in_ : In done (dones_of list)
  pub of_ : done.event ≡ e

-- each of the answers stands in the list at its place
abbrev pub AllStand : List Entry → List Answer → Type 0
AllStand list found = (i : ℕ) (a : Answer) → slice_get found i ≡ Some a → answer_at a.place list ≡ Some a

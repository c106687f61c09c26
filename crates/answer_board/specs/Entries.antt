-- The list of a board: events that were done, and answers.
use Rattle.answer_board.specs.declared.entries.Entry.{Entry}
use Rattle.answer_board.specs.declared.entries.Entry.TheVariants.{Did, Gave}
use Rattle.std.specs.Prelude.{Bool, List, None, Option, Some, [], cond, ◌&&◌, ◌==◌, ◌∷◌}
use Rattle.str_model.specs.declared.messages.Answer.{Answer}
use Rattle.str_model.specs.declared.names.Done.{Done}
use Rattle.str_scene.specs.Places.{same_place}
use Rattle.str_scene.specs.declared.names.TxPlace.{TxPlace}

-- the first answer at a place
abbrev pub answer_at : TxPlace → List Entry → Option Answer
answer_at p [] = None
answer_at p (Did d ∷ es) = answer_at p es
answer_at p (Gave a ∷ es) = cond (same_place a.place p) (Some a) (answer_at p es)

-- the answer that an entry is
abbrev pub answer_in : Option Entry → Option Answer
answer_in None = None
answer_in (Some (Did d)) = None
answer_in (Some (Gave a)) = Some a

-- the events that were done, in order
abbrev pub dones_of : List Entry → List Done
dones_of [] = []
dones_of (Did d ∷ es) = d ∷ dones_of es
dones_of (Gave a ∷ es) = dones_of es

-- the answers, in order
abbrev pub answers_of : List Entry → List Answer
answers_of [] = []
answers_of (Did d ∷ es) = answers_of es
answers_of (Gave a ∷ es) = a ∷ answers_of es

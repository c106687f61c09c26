-- What changes do to what is shown.
use Rattle.answer_board.specs.Places.{Listed, with_entry}
use Rattle.std.specs.Prelude.{List, [], ◌∷◌}
use Rattle.answer_board.specs.declared.entries.Entry.{Entry}
use Rattle.answer_board.specs.Views.{FrontView}
use Rattle.answer_board.specs.declared.shelf.Change.{Change}
use Rattle.answer_board.specs.declared.shelf.Change.TheVariants.{Put, Mark}

-- the entries and the front after one change
abbrev pub changed : Listed × FrontView → Change → Listed × FrontView
changed s (Put e) = (with_entry s.0 e, s.1)
changed s (Mark f) = (s.0, f)

-- the entries that these changes put
abbrev pub puts : List Change → List Entry
puts [] = []
puts (Put e ∷ cs) = e ∷ puts cs
puts (Mark f ∷ cs) = puts cs

-- the last front that they mark, or f
abbrev pub marked : FrontView → List Change → FrontView
marked f [] = f
marked f (Put e ∷ cs) = marked f cs
marked f (Mark g ∷ cs) = marked g cs

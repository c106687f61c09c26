-- The entries of a cluster, and how far a list that begins them has come.
use Rattle.answer_board.specs.Entries.{answers_of, dones_of}
use Rattle.answer_board.specs.declared.entries.Entry.{Entry}
use Rattle.answer_board.specs.declared.entries.Entry.TheVariants.{Did, Gave}
use Rattle.door.specs.declared.extents.Extent.{Extent}
use Rattle.std.specs.Prelude.{List, Option, [], drop, if◌then◌else◌, length, map, nat_lt, option_map, slice_get, take, ℕ, ◌++◌, ◌+◌, ◌-◌, ◌∷◌}
use Rattle.str_model.specs.Runs.{World}
use Rattle.str_model.specs.declared.messages.Answer.{Answer}
use Rattle.str_model.specs.declared.names.Done.{Done}

-- answers as entries
abbrev pub as_gave : List Answer → List Entry
as_gave rs = map (λ (a : Answer). Gave a) rs

-- each journal entry, with the answers that it released behind it
abbrev pub entries_from : List Done → List Answer → List Entry
entries_from [] rs = []
entries_from (d ∷ ds) rs = Did d ∷ (as_gave (take d.answers rs) ++ entries_from ds (drop d.answers rs))

-- the entries of a cluster
abbrev pub run_entries : World → List Entry
run_entries w = entries_from w.journal w.answers

-- how many answers are still due behind these entries, where n were due before them
abbrev pub due_from : ℕ → List Entry → ℕ
due_from n [] = n
due_from n (Did d ∷ es) = due_from d.answers es
due_from n (Gave a ∷ es) = due_from (n - 1) es

-- how far a list has come
abbrev pub extent_of : List Entry → Extent
extent_of es = record { events = length (dones_of es); answers = length (answers_of es); due = due_from 0 es }

-- one entry more
abbrev pub extent_after : Extent → Entry → Extent
extent_after x (Did d) = record { events = x.events + 1; answers = x.answers; due = d.answers }
extent_after x (Gave a) = record { events = x.events; answers = x.answers + 1; due = x.due - 1 }

-- the entry that comes next: the next answer where one is due, else the next journal entry
abbrev pub due_next : Extent → List Done → List Answer → Option Entry
due_next x ds rs = if nat_lt 0 x.due then option_map (λ (a : Answer). Gave a) (slice_get rs x.answers) else option_map (λ (d : Done). Did d) (slice_get ds x.events)

-- the next entry of a cluster
abbrev pub board_next : Extent → World → Option Entry
board_next x w = due_next x w.journal w.answers

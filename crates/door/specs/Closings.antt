-- What the closing of a door tells.
use Rattle.answer_board.specs.Entries.{answers_of, dones_of}
use Rattle.answer_board.specs.declared.entries.Entry.{Entry}
use Rattle.cluster_run.specs.declared.lines.Counts.{Counts}
use Rattle.door.specs.Acting.{AllStand}
use Rattle.std.specs.List.{count_by}
use Rattle.std.specs.Prelude.{List, not, ◌≡◌}
use Rattle.str_model.specs.Lines.{is_commit}
use Rattle.str_model.specs.declared.messages.Answer.{Answer}
use Rattle.str_model.specs.declared.names.Done.{Done}

-- the journal and the answers are those of the list, each answer stands there at its place, the numbers count them, and no transaction is held or has
-- still to begin
pub record IsClosing (journal : List Done) (answers : List Answer) (numbers : Counts) (list : List Entry) : Type 0 where
  pub entered : dones_of list ≡ journal
  pub released : answers_of list ≡ answers
  pub stand : AllStand list answers
  pub commits : numbers.commits ≡ count_by (λ a. is_commit a.outcome) answers
  pub aborts : numbers.aborts ≡ count_by (λ a. not (is_commit a.outcome)) answers
  pub held : numbers.held ≡ 0
  pub unbegun : numbers.unbegun ≡ 0

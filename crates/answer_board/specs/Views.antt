-- What contracts see of a history, of a board's writer and readers, and of a note.
use Rattle.answer_board.specs.declared.entries.Entry.{Entry}
use Rattle.logbook.specs.Pages.{Book}
use Rattle.std.specs.Prelude.{Bool, List, ℕ}

-- a beginning of a history: whose it is, and the versions of the board's list so far
pub record FrontView : Type 0 where
  pub book : Book
  pub log : List (List Entry)

-- a writer: its board, how many places each session has, the list that is shown, and the entries that are held
pub record WriterView : Type 0 where
  pub board : Book
  pub places : List ℕ
  pub list : List Entry
  pub held : List Entry

-- a reader: its board, the list that it knows, and whether it last found the board ended
pub record ReaderView : Type 0 where
  pub board : Book
  pub list : List Entry
  pub ended : Bool

-- a note: its board, and the list that it tells of
pub record ShownView : Type 0 where
  pub board : Book
  pub list : List Entry

use Rattle.std.proofs.Common.{◌≡◌, All, length}
use Rattle.answer_board.proofs.boards.readers_of.Given as goal

abbrev pub invariant-loop : goal.invariant-loop
invariant-loop l =
    (l.writer ≡ l.initial.writer)
    × All (λ r. r.board ≡ l.initial.writer.board) l.readers.items
    × All (λ r. r.list ≡ l.initial.writer.list) l.readers.items
    × (length l.readers.items ≡ l.counter)

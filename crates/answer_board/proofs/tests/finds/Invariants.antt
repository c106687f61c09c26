use Rattle.std.proofs.Common.{◌≡◌}
use Rattle.answer_board.proofs.tests.finds.Given as goal

abbrev pub invariant-loop-session : goal.invariant-loop-session
invariant-loop-session l = l.reader.board ≡ l.initial.reader.board

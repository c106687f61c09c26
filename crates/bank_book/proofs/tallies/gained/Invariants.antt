use Rattle.std.proofs.Common.{take, ◌≡◌}
use Rattle.std.specs.Int.{int_wrap, w64}
use Rattle.bank_book.specs.Tallies.{gained}
use Rattle.bank_book.proofs.tallies.gained.Given as goal

abbrev pub invariant-loop-answer : goal.invariant-loop-answer
invariant-loop-answer l = l.sum ≡ int_wrap w64 (gained l.scene l.key (take l.answer-index l.answers))

use Rattle.bank_book.proofs.FirstUnfit.{Passed}
use Rattle.bank_book.proofs.reading.first_unfit.Given as goal

abbrev pub invariant-loop-i : goal.invariant-loop-i
invariant-loop-i l = Passed l.accounts l.sessions l.i

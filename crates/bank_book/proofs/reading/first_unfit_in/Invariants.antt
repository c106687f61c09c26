use Rattle.bank_book.proofs.FirstUnfit.{FitBefore}
use Rattle.bank_book.proofs.reading.first_unfit_in.Given as goal

abbrev pub invariant-loop-i : goal.invariant-loop-i
invariant-loop-i l = FitBefore l.accounts l.txs l.skipped l.i

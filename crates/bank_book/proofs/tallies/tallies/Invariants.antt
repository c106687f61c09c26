use Rattle.std.proofs.Common.{take, ◌≡◌}
use Rattle.bank_book.specs.Tallies.{tallies}
use Rattle.bank_book.proofs.tallies.tallies.Given as goal

abbrev pub invariant-loop-i : goal.invariant-loop-i
invariant-loop-i l = l.gots.items ≡ tallies l.scene l.answers (take l.i l.accounts) (take l.i l.amounts)

use Rattle.std.proofs.Common.{length}
use Rattle.bank_book.proofs.scripts.+are_gets.Given as goal

abbrev pub decreases-are_gets : goal.decreases-are_gets
decreases-are_gets l = length l.keys.now

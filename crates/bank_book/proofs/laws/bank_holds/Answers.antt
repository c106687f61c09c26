use Rattle.bank_book.proofs.Law.{bank_law}
use Rattle.bank_book.proofs.laws.bank_holds.Goals as goal

pub returns : goal.returns
returns c = bank_law

use Rattle.std.proofs.Common.{rules}
use Rattle.std.proofs.lemmas.Int.{wraps}
use Rattle.bank_book.proofs.tallies.credited.Goals as goal

pub returns : goal.returns
returns c = search (rules, wraps)

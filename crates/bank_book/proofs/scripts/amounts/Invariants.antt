use Rattle.std.proofs.Common.{map, take, ◌≡◌}
use Rattle.bank_book.specs.BankScenes.{amount}
use Rattle.bank_book.proofs.scripts.amounts.Given as goal

abbrev pub invariant-loop-op : goal.invariant-loop-op
invariant-loop-op l = l.numbers.items ≡ map amount (take l.op-index l.ops)

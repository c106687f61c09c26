use Rattle.std.proofs.Common.{map, take, ◌≡◌}
use Rattle.bank_book.specs.BankScenes.{account}
use Rattle.bank_book.proofs.scripts.accounts.Given as goal

abbrev pub invariant-loop-op : goal.invariant-loop-op
invariant-loop-op l = l.keys.items ≡ map account (take l.op-index l.ops)

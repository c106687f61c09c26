use Rattle.std.proofs.Common.{flat_map, take, ◌++◌, ◌≡◌}
use Rattle.strun.specs.Banks.{balance_line}
use Rattle.strun.proofs.banks.push_balances.Given as goal

abbrev pub invariant-loop-got : goal.invariant-loop-got
invariant-loop-got l = l.lines.items ≡ l.fn.lines.items ++ flat_map (balance_line l.keys) (take l.got-index l.gots)

use Rattle.std.proofs.Common.{flat_map, take, ◌++◌, ◌≡◌}
use Rattle.strun.specs.Audits.{pair_line}
use Rattle.strun.proofs.audits.push_pairs.Given as goal

abbrev pub invariant-loop-got : goal.invariant-loop-got
invariant-loop-got l = l.lines.items ≡ l.fn.lines.items ++ flat_map (pair_line l.keys) (take l.got-index l.gots)

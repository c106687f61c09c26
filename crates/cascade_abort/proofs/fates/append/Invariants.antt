use Rattle.std.proofs.Common.{take, ◌++◌, ◌≡◌}
use Rattle.cascade_abort.proofs.fates.append.Given as goal

abbrev pub invariant-loop-dep : goal.invariant-loop-dep
invariant-loop-dep l = l.list ≡ l.fn.list ++ take l.dep-index l.deps

use Rattle.std.proofs.Common.{drop, take, ◌++◌, ◌≡◌}
use Rattle.node_parts.specs.Owning.{told_again}
use Rattle.node_parts.proofs.own_list.tell_again.Given as goal

abbrev pub invariant-loop-k : goal.invariant-loop-k
invariant-loop-k l = l.told.items ≡ take l.k (told_again l.seq l.snap l.initial.told.items) ++ drop l.k l.initial.told.items

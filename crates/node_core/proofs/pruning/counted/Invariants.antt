use Rattle.std.proofs.Common.{length, min, ◌+◌, ◌-◌, ◌^◌, ◌≡◌, ◌≤◌}
use Rattle.node_core.proofs.pruning.counted.Given as goal

-- the number so far and the versions that are left come to the same
abbrev pub invariant-versions : goal.invariant-versions
invariant-versions l = record {
  sum : min (l.count + length l.walk.older) (2 ^ 64 - 1) ≡ min (l.fn.before + length l.fn.walk.older) (2 ^ 64 - 1);
  limit : l.count ≤ 2 ^ 64 - 1;
}

abbrev pub decreases-versions : goal.decreases-versions
decreases-versions l = length l.walk.older

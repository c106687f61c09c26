use Rattle.std.proofs.Common.{drop, length, ◌≡◌, ◌≤◌}
use Rattle.dependency_set.specs.Snapshots.{oldest}
use Rattle.dependency_set.proofs.snaps.oldest.Given as goal

abbrev pub invariant-loop-i : goal.invariant-loop-i
invariant-loop-i l = record {
  in_range : l.i ≤ length l.deps;
  best : l.best ≡ oldest (drop l.i l.deps);
}

abbrev pub decreases-loop-i : goal.decreases-loop-i
decreases-loop-i l = l.i

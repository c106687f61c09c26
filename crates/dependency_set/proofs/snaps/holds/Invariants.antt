use Rattle.std.proofs.Common.{drop, nat_le, ◌≡◌}
use Rattle.std.specs.List.{list_all}
use Rattle.dependency_set.specs.Snapshots.{holds}
use Rattle.dependency_set.proofs.snaps.holds.Given as goal

abbrev pub invariant-loop-dep : goal.invariant-loop-dep
invariant-loop-dep l = list_all (λ d. nat_le l.snap.ffc d.rs.0) (drop l.dep-index l.dep-items) ≡ holds l.snap

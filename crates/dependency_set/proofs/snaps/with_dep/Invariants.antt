use Rattle.std.proofs.Common.{drop, if◌then◌else◌, ◌++◌, ◌≡◌}
use Rattle.dependency_set.specs.Snapshots.{insert_dep}
use Rattle.dependency_set.proofs.snaps.with_dep.Given as goal

abbrev pub invariant-loop-other : goal.invariant-loop-other
invariant-loop-other l =
    l.list ++ (if l.is_missing then insert_dep l.dep (drop l.other-index l.deps) else drop l.other-index l.deps)
    ≡ insert_dep l.dep l.deps

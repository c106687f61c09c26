use Rattle.std.proofs.Common.{drop, max, ◌<◌, ◌≡◌}
use Rattle.local_certify.specs.Causes.{time_end}
use Rattle.local_certify.specs.Judging.{passed_by}
use Rattle.snapshot_read.specs.Shown.{held}
use Rattle.local_certify.proofs.certs.passed.Given as goal

abbrev pub invariant-loop-write : goal.invariant-loop-write
invariant-loop-write l =
    (max l.last (passed_by l.marks (held l.map l.node l.store.versions l.cache.versions) (drop l.write-index l.writes)) ≡ passed_by l.marks (held l.map l.node l.store.versions l.cache.versions) l.writes)
    × (l.last < time_end)

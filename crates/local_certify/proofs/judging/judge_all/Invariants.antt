use Rattle.std.proofs.Common.{drop, ◌≡◌}
use Rattle.local_certify.specs.Judging.{judged_all}
use Rattle.snapshot_read.specs.Shown.{AreNamed, held}
use Rattle.local_certify.proofs.judging.judge_all.Given as goal

abbrev pub invariant-loop-write : goal.invariant-loop-write
invariant-loop-write l =
    (judged_all l.own l.snap.rs (held l.map l.node l.store.versions l.cache.versions) (drop l.write-index l.writes) l.joined
    ≡ judged_all l.own l.snap.rs (held l.map l.node l.store.versions l.cache.versions) l.writes l.snap)
    × AreNamed l.own l.joined.deps

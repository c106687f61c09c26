use Rattle.std.proofs.Common.{length, min, ◌+◌, ◌-◌, ◌^◌, ◌≡◌}
use Rattle.node_core.proofs.OldVersions.Counting.{below_key}
use Rattle.node_core.proofs.work.Work.versions.Given as goal

-- the versions of the keys below this one are counted
abbrev pub invariant-loop-key : goal.invariant-loop-key
invariant-loop-key l =
    l.count ≡ min (length (below_key l.key l.self-inside.held.store.versions) + length (below_key l.key l.self-inside.held.cache.versions)) (2 ^ 64 - 1)

use Rattle.std.proofs.Common.{length, ◌≤◌}
use Rattle.dependency_set.specs.Snapshots.{insert_dep, union}
use Rattle.dependency_set.proofs.Sets.{both-fit, set-all}
use Rattle.dependency_set.proofs.snaps.accept_local.Goals as goal

pub joined-all-requires : goal.joined-all-requires
joined-all-requires c =
    let ds = c.of.inside.deps in
    let es = c.snap.inside.deps in
    let fits : length (insert_dep (record { seq = c.args.seq; rs = c.of.inside.rs }) (union ds es)) ≤ 15 = rw (← c.of.view_is, ← c.snap.view_is) at c.requires in
    both-fit (record { seq = c.args.seq; rs = c.of.inside.rs }) ds es fits

pub invariant_of-result : goal.invariant_of-result
invariant_of-result c =
    let ds = c.of.inside.deps in
    let es = c.snap.inside.deps in
    let fits : length (insert_dep (record { seq = c.args.seq; rs = c.of.inside.rs }) (union ds es)) ≤ 15 = rw (← c.of.view_is, ← c.snap.view_is) at c.requires in
    set-all (record { seq = c.args.seq; rs = c.of.inside.rs }) ds es c.joined-all.result c.with_dep.result c.with_dep.ensures c.joined-all.ensures c.snap.invariant fits

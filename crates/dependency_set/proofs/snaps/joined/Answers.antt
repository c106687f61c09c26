use Rattle.dependency_set.proofs.Sets.{next-fits}
use Rattle.dependency_set.proofs.snaps.joined.Goals as goal

pub with_dep-list-requires : goal.with_dep-list-requires
with_dep-list-requires c =
    next-fits c.args.deps.now c.args.others.now c.as_slice-items.result.now c.loop-i.list c.loop-i.i _ c.requires c.as_slice-items.ensures.items c.loop-i.invariant.joined c.loop-i-test.true c.loop-i.invariant.in_range

use Rattle.std.proofs.Common.{sym}
use Rattle.snapshot_read.proofs.Fitting.{taken_fits, taken_named}
use Rattle.snapshot_read.proofs.taking.take_over.Goals as goal

pub accept_local-requires : goal.accept_local-requires
accept_local-requires c =
    taken_fits c.args.own.now c.args.seq c.args.snap.now c.in-Some.of c.requires.few c.deps.ensures.set c.requires.deps (sym c.in-Some.ensures) c.requires.others

pub returns-in-Some-clause-kept : goal.returns-in-Some-clause-kept
returns-in-Some-clause-kept c =
    rw c.accept_local.ensures (taken_named c.args.own.now c.args.seq c.args.snap.now c.in-Some.of c.requires.deps (sym c.in-Some.ensures) c.requires.others)

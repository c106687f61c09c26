use Rattle.std.proofs.Common.{refl}
use Rattle.snapshot_read.proofs.Gating.{shut_waits}
use Rattle.snapshot_read.proofs.reads.speculative.Goals as goal

pub returns-in-Some : goal.returns-in-Some
returns-in-Some c = shut_waits c.args.node c.args.snap _ c.in-Some.by ((c.in-Some.ensures.some c.in-Some.by).0 refl)

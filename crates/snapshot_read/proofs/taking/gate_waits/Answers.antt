use Rattle.std.proofs.Common.{refl, sym}
use Rattle.snapshot_read.proofs.Gating.{open_without}
use Rattle.snapshot_read.proofs.taking.gate_waits.Goals as goal

pub returns-in-None-clause-none : goal.returns-in-None-clause-none
returns-in-None-clause-none c = (λ q. open_without c.args.snap.now (sym c.in-None.ensures), λ h. refl)

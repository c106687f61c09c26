use Rattle.spsi_laws.proofs.laws.drain_follows.Goals as goal
use Rattle.spsi_laws.proofs.Work.DrainHolds.{drain_follows}

pub returns : goal.returns
returns c = drain_follows

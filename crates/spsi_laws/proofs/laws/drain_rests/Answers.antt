use Rattle.spsi_laws.proofs.laws.drain_rests.Goals as goal
use Rattle.spsi_laws.proofs.Work.DrainHolds.{drain_rests}

pub returns : goal.returns
returns c = drain_rests

use Rattle.spsi_laws.proofs.laws.drain_lowers.Goals as goal
use Rattle.spsi_laws.proofs.Work.DrainHolds.{drain_lowers}

pub returns : goal.returns
returns c = drain_lowers

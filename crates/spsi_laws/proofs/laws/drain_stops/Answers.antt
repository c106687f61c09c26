use Rattle.spsi_laws.proofs.laws.drain_stops.Goals as goal
use Rattle.spsi_laws.proofs.Work.DrainHolds.{drain_stops}

pub returns : goal.returns
returns c = drain_stops

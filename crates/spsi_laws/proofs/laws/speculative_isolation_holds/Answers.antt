use Rattle.spsi_laws.proofs.laws.speculative_isolation_holds.Goals as goal
use Rattle.spsi_laws.proofs.Speculation.SpeculationHolds.{speculation_holds}

pub returns : goal.returns
returns c = speculation_holds

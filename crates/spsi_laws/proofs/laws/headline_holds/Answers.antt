use Rattle.spsi_laws.proofs.laws.headline_holds.Goals as goal
use Rattle.spsi_laws.proofs.Speculation.HeadlineHolds.{headline_holds}

pub returns : goal.returns
returns c = headline_holds

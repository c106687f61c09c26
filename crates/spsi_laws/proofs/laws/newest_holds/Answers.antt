use Rattle.spsi_laws.proofs.laws.newest_holds.Goals as goal
use Rattle.spsi_laws.proofs.Speculation.NewestReads.{newest_holds}

pub returns : goal.returns
returns c = newest_holds

use Rattle.prune_laws.proofs.laws.prune_holds.Goals as goal
use Rattle.prune_laws.proofs.PruneHolds.{prune_holds}

pub returns : goal.returns
returns c = prune_holds

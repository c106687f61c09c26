use Rattle.prune_laws.proofs.laws.low_never_falls.Goals as goal
use Rattle.prune_laws.proofs.LowNeverFalls.{low_never_falls}

pub returns : goal.returns
returns c = low_never_falls

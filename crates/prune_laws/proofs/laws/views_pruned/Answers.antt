use Rattle.prune_laws.proofs.laws.views_pruned.Goals as goal
use Rattle.prune_laws.proofs.PruneHolds.{views_pruned}

pub returns : goal.returns
returns c = views_pruned

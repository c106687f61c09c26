use Rattle.prune_laws.proofs.laws.messages_alike.Goals as goal
use Rattle.prune_laws.proofs.PruneHolds.{messages_alike}

pub returns : goal.returns
returns c = messages_alike

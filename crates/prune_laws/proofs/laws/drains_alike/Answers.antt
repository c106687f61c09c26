use Rattle.prune_laws.proofs.laws.drains_alike.Goals as goal
use Rattle.prune_laws.proofs.DrainsAlike.{drains_alike}

pub returns : goal.returns
returns c = drains_alike

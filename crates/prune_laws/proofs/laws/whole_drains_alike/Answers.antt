use Rattle.prune_laws.proofs.laws.whole_drains_alike.Goals as goal
use Rattle.prune_laws.proofs.DrainsAlike.{whole_drains_alike}

pub returns : goal.returns
returns c = whole_drains_alike

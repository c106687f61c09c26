use Rattle.prune_laws.proofs.laws.left_alike.Goals as goal
use Rattle.prune_laws.proofs.DrainsAlike.{left_alike}

pub returns : goal.returns
returns c = left_alike

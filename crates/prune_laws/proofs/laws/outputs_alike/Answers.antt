use Rattle.prune_laws.proofs.laws.outputs_alike.Goals as goal
use Rattle.prune_laws.proofs.DrainsAlike.{outputs_alike}

pub returns : goal.returns
returns c = outputs_alike

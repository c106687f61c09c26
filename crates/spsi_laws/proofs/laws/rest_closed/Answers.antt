use Rattle.spsi_laws.proofs.laws.rest_closed.Goals as goal
use Rattle.spsi_laws.proofs.Rest.RunEnds.{rest_closed}

pub returns : goal.returns
returns c = rest_closed

use Rattle.spsi_laws.proofs.laws.rest_holds.Goals as goal
use Rattle.spsi_laws.proofs.Rest.RestHolds.{rest_holds}

pub returns : goal.returns
returns c = rest_holds

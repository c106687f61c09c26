use Rattle.spsi_laws.proofs.laws.ends_at_rest.Goals as goal
use Rattle.spsi_laws.proofs.Rest.RunEnds.{ends_at_rest}

pub returns : goal.returns
returns c = ends_at_rest

use Rattle.spsi_laws.proofs.laws.cascades_end.Goals as goal
use Rattle.spsi_laws.proofs.Dependencies.CascadesEnd.{cascades_end}

pub returns : goal.returns
returns c = cascades_end

use Rattle.spsi_laws.proofs.laws.dependencies_earlier.Goals as goal
use Rattle.spsi_laws.proofs.Dependencies.DependenciesBefore.{dependencies_earlier}

pub returns : goal.returns
returns c = dependencies_earlier

use Rattle.spsi_laws.proofs.laws.dependencies_stand.Goals as goal
use Rattle.spsi_laws.proofs.Dependencies.DependenciesHold.{dependencies_stand}

pub returns : goal.returns
returns c = dependencies_stand

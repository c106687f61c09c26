use Rattle.spsi_laws.proofs.laws.dependencies_live.Goals as goal
use Rattle.spsi_laws.proofs.Dependencies.DependenciesLive.{dependencies_live}

pub returns : goal.returns
returns c = dependencies_live

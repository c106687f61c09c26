use Rattle.si_laws.proofs.laws.prefix_holds.Goals as goal
use Rattle.si_laws.proofs.Isolation.PrefixHolds.{prefix_law}

pub returns : goal.returns
returns c = prefix_law

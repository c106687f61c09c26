use Rattle.si_laws.proofs.laws.causes_named.Goals as goal
use Rattle.si_laws.proofs.Reasons.CausesNamed.{causes_named}

pub returns : goal.returns
returns c = causes_named

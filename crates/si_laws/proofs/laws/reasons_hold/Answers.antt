use Rattle.si_laws.proofs.laws.reasons_hold.Goals as goal
use Rattle.si_laws.proofs.Reasons.RefuseReasons.{reasons_hold}

pub returns : goal.returns
returns c = reasons_hold

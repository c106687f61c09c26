use Rattle.si_laws.proofs.laws.decided_stay.Goals as goal
use Rattle.si_laws.proofs.Changes.DecidedStay.{decided_stay}

pub returns : goal.returns
returns c = decided_stay

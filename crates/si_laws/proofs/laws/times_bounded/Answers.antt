use Rattle.si_laws.proofs.laws.times_bounded.Goals as goal
use Rattle.si_laws.proofs.Times.ProposalsFew.{times_bounded}

pub returns : goal.returns
returns c = times_bounded

use Rattle.si_laws.proofs.laws.acks_known.Goals as goal
use Rattle.si_laws.proofs.Stages.AcksKnown.{acks_known}

pub returns : goal.returns
returns c = acks_known

use Rattle.si_laws.proofs.laws.pres_asked.Goals as goal
use Rattle.si_laws.proofs.Stages.PreAsked.{pres_asked}

pub returns : goal.returns
returns c = pres_asked

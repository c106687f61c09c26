use Rattle.si_laws.proofs.laws.cut_holds.Goals as goal
use Rattle.si_laws.proofs.Sessions.CutHolds.{cut_holds}

pub returns : goal.returns
returns c = cut_holds

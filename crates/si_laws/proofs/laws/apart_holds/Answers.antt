use Rattle.si_laws.proofs.laws.apart_holds.Goals as goal
use Rattle.si_laws.proofs.Order.WritersApart.{apart_holds}

pub returns : goal.returns
returns c = apart_holds

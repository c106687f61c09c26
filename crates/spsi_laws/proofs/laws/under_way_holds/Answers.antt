use Rattle.spsi_laws.proofs.laws.under_way_holds.Goals as goal
use Rattle.spsi_laws.proofs.UnderWay.UnderWayHolds.{under_way}

pub returns : goal.returns
returns c = under_way

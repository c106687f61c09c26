use Rattle.spsi_laws.proofs.laws.delivery_lowers.Goals as goal
use Rattle.spsi_laws.proofs.Work.WorkHolds.{delivery_lowers}

pub returns : goal.returns
returns c = delivery_lowers

use Rattle.spsi_laws.proofs.laws.left_at_opening.Goals as goal
use Rattle.spsi_laws.proofs.Work.WorkHolds.{left_at_opening}

pub returns : goal.returns
returns c = left_at_opening

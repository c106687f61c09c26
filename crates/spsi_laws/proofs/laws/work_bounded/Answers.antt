use Rattle.spsi_laws.proofs.laws.work_bounded.Goals as goal
use Rattle.spsi_laws.proofs.Work.WorkHolds.{work_bounded}

pub returns : goal.returns
returns c = work_bounded

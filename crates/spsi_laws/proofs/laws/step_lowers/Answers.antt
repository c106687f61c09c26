use Rattle.spsi_laws.proofs.laws.step_lowers.Goals as goal
use Rattle.spsi_laws.proofs.Work.WorkHolds.{step_lowers}

pub returns : goal.returns
returns c = step_lowers

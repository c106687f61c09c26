use Rattle.spsi_laws.proofs.laws.repeats_raise.Goals as goal
use Rattle.spsi_laws.proofs.Work.WorkHolds.{repeats_raise}

pub returns : goal.returns
returns c = repeats_raise

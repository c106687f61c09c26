use Rattle.prune_laws.proofs.laws.late_idle.Goals as goal
use Rattle.prune_laws.proofs.LateIdle.{late_idle}

pub returns : goal.returns
returns c = late_idle

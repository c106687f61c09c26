use Rattle.si_laws.proofs.laws.stages_forward.Goals as goal
use Rattle.si_laws.proofs.Stages.PairsForward.{stages_forward}

pub returns : goal.returns
returns c = stages_forward

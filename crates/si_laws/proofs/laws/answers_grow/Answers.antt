use Rattle.si_laws.proofs.laws.answers_grow.Goals as goal
use Rattle.si_laws.proofs.Changes.DecidedStay.{answers_grow}

pub returns : goal.returns
returns c = answers_grow

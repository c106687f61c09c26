use Rattle.si_laws.proofs.laws.aborts_answered.Goals as goal
use Rattle.si_laws.proofs.Reasons.AnswersGiven.{aborts_answered}

pub returns : goal.returns
returns c = aborts_answered

use Rattle.si_laws.proofs.laws.commits_answered.Goals as goal
use Rattle.si_laws.proofs.Reasons.AnswersGiven.{commits_answered}

pub returns : goal.returns
returns c = commits_answered

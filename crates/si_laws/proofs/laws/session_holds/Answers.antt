use Rattle.si_laws.proofs.laws.session_holds.Goals as goal
use Rattle.si_laws.proofs.Sessions.SessionAnswers.{session_holds}

pub returns : goal.returns
returns c = session_holds

use Rattle.si_laws.proofs.laws.times_hold.Goals as goal
use Rattle.si_laws.proofs.Times.TimesHold.{times_hold}

pub returns : goal.returns
returns c = times_hold

use Rattle.si_laws.proofs.laws.marks_hold.Goals as goal
use Rattle.si_laws.proofs.Marks.MarksHold.{marks_hold}

pub returns : goal.returns
returns c = marks_hold

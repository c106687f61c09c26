use Rattle.si_laws.proofs.laws.home_marks_hold.Goals as goal
use Rattle.si_laws.proofs.Marks.HomeMarks.{marked_at_home}

pub returns : goal.returns
returns c = marked_at_home

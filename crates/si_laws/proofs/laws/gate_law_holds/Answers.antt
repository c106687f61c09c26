use Rattle.si_laws.proofs.laws.gate_law_holds.Goals as goal
use Rattle.si_laws.proofs.Reasons.WritersFirst.{gate_law}

pub returns : goal.returns
returns c = gate_law

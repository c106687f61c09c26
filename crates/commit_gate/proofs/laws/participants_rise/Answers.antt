use Rattle.commit_gate.proofs.Upwards.{participants_upwards, upwards_map}
use Rattle.commit_gate.proofs.laws.participants_rise.Goals as goal

pub returns-clause-given : goal.returns-clause-given
returns-clause-given c = participants_upwards

pub returns-clause-changed : goal.returns-clause-changed
returns-clause-changed c = upwards_map

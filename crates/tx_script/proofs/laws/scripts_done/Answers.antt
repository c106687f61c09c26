use Rattle.tx_script.proofs.OfNode.{turn_does, value_comes}
use Rattle.tx_script.proofs.laws.scripts_done.Goals as goal

pub returns-clause-turn : goal.returns-clause-turn
returns-clause-turn c = turn_does

pub returns-clause-read : goal.returns-clause-read
returns-clause-read c = value_comes

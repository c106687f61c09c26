use Rattle.tx_script.proofs.Reaching.{reached-abort, reached-end, reached-need}
use Rattle.tx_script.proofs.laws.scripts_evaluated.Goals as goal

pub returns-clause-past : goal.returns-clause-past
returns-clause-past c = reached-end

pub returns-clause-need : goal.returns-clause-need
returns-clause-need c = reached-need

pub returns-clause-wish : goal.returns-clause-wish
returns-clause-wish c = reached-abort

use Rattle.history_audit.proofs.LoopSteps.{AreEmpty}
use Rattle.history_audit.proofs.ledgers.clear_all.Given as goal

abbrev pub invariant-loop-chain : goal.invariant-loop-chain
invariant-loop-chain l = AreEmpty l.chains l.chain-index

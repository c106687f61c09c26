use Rattle.history_audit.proofs.LoopSteps.{Filled}
use Rattle.history_audit.proofs.snapshots.refill.Given as goal

abbrev pub invariant-loop-commit : goal.invariant-loop-commit
invariant-loop-commit l = Filled l.scene l.order l.commit-index l.ledger

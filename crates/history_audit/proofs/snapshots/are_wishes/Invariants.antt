use Rattle.std.proofs.Common.{ℕ, ◌<◌}
use Rattle.history_audit.specs.Tests.{IsWishOn}
use Rattle.si_laws.specs.SnapshotIsolation.{IsAnswer}
use Rattle.str_model.specs.declared.messages.Answer.{Answer}
use Rattle.history_audit.proofs.snapshots.are_wishes.Given as goal

abbrev pub invariant-loop-answer : goal.invariant-loop-answer
invariant-loop-answer l = (i : ℕ) (a : Answer) → i < l.answer-index → IsAnswer l.answers i a → IsWishOn l.scene l.ledger a

use Rattle.std.proofs.Common.{length, ◌≡◌}
use Rattle.history_audit.proofs.ledgers.Ledger.new.Given as goal

abbrev pub invariant-loop-key : goal.invariant-loop-key
invariant-loop-key l = length l.chains.items ≡ l._key

use Rattle.std.proofs.Common.{◌≡◌}
use Rattle.history_audit.specs.Ledgers.{look_in}
use Rattle.history_audit.specs.Values.{values_by}
use Rattle.history_audit.proofs.listings.listed.Given as goal

abbrev pub invariant-loop-number : goal.invariant-loop-number
invariant-loop-number l = l.values.items ≡ values_by (look_in l.ledger l.t.0) l.number

use Rattle.std.proofs.Common.{drop, length, ◌≡◌}
use Rattle.history_audit.specs.Ledgers.{with_entries}
use Rattle.history_audit.proofs.ledgers.Ledger.push.Given as goal

abbrev pub invariant-loop-write : goal.invariant-loop-write
invariant-loop-write l = record {
  keys : length l.self ≡ length l.fn.self;
  list : with_entries l.fc (drop l.write-index l.writes) l.self ≡ with_entries l.fc l.writes l.fn.self;
}

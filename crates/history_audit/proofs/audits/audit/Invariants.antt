use Rattle.std.proofs.Common.{length, take, ℕ, ◌≡◌, ◌≤◌}
use Rattle.history_audit.specs.Orders.{order_of}
use Rattle.si_laws.specs.SnapshotIsolation.{SI}
use Rattle.history_audit.proofs.audits.audit.Given as goal

abbrev pub invariant-loop-count : goal.invariant-loop-count
invariant-loop-count l = record {
  before : (n : ℕ) → n ≤ l.count → SI l.scene (take n l.answers);
  order : l.books.order.items ≡ order_of (take l.count l.answers);
  keys : length l.books.ledger ≡ length l.scene.keys.names;
}

use Rattle.std.proofs.Common.{drop, length, ◌≡◌, ◌≤◌}
use Rattle.history_audit.specs.Ledgers.{look_in}
use Rattle.str_model.specs.Evaluation.{eval, eval_from}
use Rattle.history_audit.proofs.evaluations.evaluate.Given as goal

abbrev pub invariant-loop-op : goal.invariant-loop-op
invariant-loop-op l = record {
  rest : eval_from (look_in l.ledger l.rs.0) (drop l.op-index l.ops) l.writes l.gets ≡ eval l.ops (look_in l.ledger l.rs.0);
  gets : length l.gets ≤ l.op-index;
  writes : length l.writes ≤ l.op-index;
}

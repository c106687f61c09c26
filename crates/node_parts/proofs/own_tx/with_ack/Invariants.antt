use Rattle.std.proofs.Common.{Some, drop, if◌then◌else◌, length, option_map, ◌++◌, ◌≡◌}
use Rattle.str_model.specs.Returns.{with_ack}
use Rattle.node_parts.proofs.own_tx.with_ack.Given as goal

abbrev pub invariant-loop-other : goal.invariant-loop-other
invariant-loop-other l = record {
  few : length l.list ≡ l.other-index;
  rest : (if l.is_missing then option_map (λ bs. l.list ++ bs) (with_ack (drop l.other-index l.other-items) l.part l.node l.ts.0) else Some (l.list ++ drop l.other-index l.other-items)) ≡ with_ack l.other-items l.part l.node l.ts.0;
}

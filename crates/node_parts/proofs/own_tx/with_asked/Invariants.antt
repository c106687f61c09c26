use Rattle.std.proofs.Common.{drop, length, ◌++◌, ◌≡◌}
use Rattle.str_model.specs.Acts.{with_asked}
use Rattle.node_parts.proofs.own_tx.with_asked.Given as goal

abbrev pub invariant-loop-other : goal.invariant-loop-other
invariant-loop-other l = record {
  few : length l.list ≡ l.other-index;
  rest : l.list ++ with_asked l.part (drop l.other-index l.other-items) ≡ with_asked l.part l.other-items;
}

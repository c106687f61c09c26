use Rattle.std.proofs.Common.{drop, filter, length, not, ◌++◌, ◌==◌, ◌≡◌, ◌≤◌}
use Rattle.node_parts.proofs.own_list.without.Given as goal

abbrev pub invariant-loop-place : goal.invariant-loop-place
invariant-loop-place l = record {
  few : length l.list ≤ l.place-index;
  rest : l.list ++ filter (λ n. not (n == l.i)) (drop l.place-index l.place-items) ≡ filter (λ n. not (n == l.i)) l.place-items;
}

use Rattle.std.proofs.Common.{drop, nat_lt, ◌+◌, ◌≡◌}
use Rattle.std.specs.List.{position_or_len}
use Rattle.node_parts.proofs.own_list.place_above.Given as goal

abbrev pub invariant-loop-k : goal.invariant-loop-k
invariant-loop-k l = l.k + position_or_len (λ y. nat_lt l.seq y.seq) (drop l.k l.told) ≡ position_or_len (λ y. nat_lt l.seq y.seq) l.told

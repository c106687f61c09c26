use Rattle.std.proofs.Common.{drop, map, max, ◌≡◌}
use Rattle.str_model.specs.Gates.{ack_or_zero}
use Rattle.str_model.specs.Turns.{greatest}
use Rattle.commit_gate.proofs.gates.last_answer.Given as goal

abbrev pub invariant-loop-other : goal.invariant-loop-other
invariant-loop-other l =
    max l.last.0 (greatest (map ack_or_zero (drop l.other-index l.parts))) ≡ max l.fn.lc.0 (greatest (map ack_or_zero l.parts))

use Rattle.std.proofs.Common.{IfSome, drop, find, true, ◌≡◌}
use Rattle.str_model.specs.Gates.{dependency_wrote, may_ask}
use Rattle.commit_gate.proofs.gates.first_free.Given as goal

abbrev pub invariant-loop-other : goal.invariant-loop-other
invariant-loop-other l = record {
  first : find (may_ask l.wrote) (drop l.other-index l.parts) ≡ find (may_ask l.wrote) l.parts;
  known : IfSome l.written (λ p. dependency_wrote l.wrote p ≡ true);
}

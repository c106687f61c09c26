use Rattle.std.proofs.Common.{drop, find, ◌≡◌}
use Rattle.commit_gate.specs.Answers.{is_missing}
use Rattle.commit_gate.proofs.gates.first_missing.Given as goal

abbrev pub invariant-loop-other : goal.invariant-loop-other
invariant-loop-other l = find is_missing (drop l.other-index l.parts) ≡ find is_missing l.parts

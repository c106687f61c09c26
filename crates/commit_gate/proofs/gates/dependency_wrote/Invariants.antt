use Rattle.std.proofs.Common.{drop, ◌≡◌}
use Rattle.str_model.specs.Gates.{dependency_wrote}
use Rattle.commit_gate.proofs.gates.dependency_wrote.Given as goal

abbrev pub invariant-loop-dep : goal.invariant-loop-dep
invariant-loop-dep l = dependency_wrote (drop l.dep-index l.wrote) l.part ≡ dependency_wrote l.wrote l.part

use Rattle.std.proofs.Common.{drop, ◌≡◌}
use Rattle.std.specs.List.{list_any}
use Rattle.str_base.specs.Versions.{same_part}
use Rattle.commit_gate.proofs.gates.DepParts.wrote_in.Given as goal

abbrev pub invariant-loop-written : goal.invariant-loop-written
invariant-loop-written l = list_any (same_part l.part) (drop l.written-index l.written-items) ≡ list_any (same_part l.part) l.self.parts

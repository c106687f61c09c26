use Rattle.std.proofs.Common.{drop, ◌≡◌}
use Rattle.node_parts.proofs.Naming.{have_marks}
use Rattle.node_parts.proofs.validity.has_marks.Given as goal

abbrev pub invariant-loop-i : goal.invariant-loop-i
invariant-loop-i l = have_marks l.site l.part (drop l.i l.items) ≡ have_marks l.site l.part l.marks

use Rattle.std.proofs.Common.{drop, ◌≡◌}
use Rattle.std.specs.List.{list_all}
use Rattle.history_audit.specs.Tests.{is_after}
use Rattle.history_audit.proofs.sessions.keeps_order.Given as goal

abbrev pub invariant-loop-other : goal.invariant-loop-other
invariant-loop-other l = list_all (is_after l.answer) (drop l.other-index l.earlier) ≡ list_all (is_after l.answer) l.earlier

use Rattle.std.proofs.Common.{drop, ◌≡◌}
use Rattle.std.specs.List.{list_all}
use Rattle.history_audit.specs.Tests.{are_apart}
use Rattle.history_audit.proofs.sessions.overlaps_none.Given as goal

abbrev pub invariant-loop-other : goal.invariant-loop-other
invariant-loop-other l = list_all (are_apart l.scene l.answer) (drop l.other-index l.earlier) ≡ list_all (are_apart l.scene l.answer) l.earlier

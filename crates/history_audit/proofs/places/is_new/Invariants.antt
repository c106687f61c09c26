use Rattle.std.proofs.Common.{drop, ◌≡◌}
use Rattle.std.specs.List.{list_all}
use Rattle.history_audit.specs.Tests.{is_other}
use Rattle.history_audit.proofs.places.is_new.Given as goal

abbrev pub invariant-loop-other : goal.invariant-loop-other
invariant-loop-other l = list_all (is_other l.answer) (drop l.other-index l.earlier) ≡ list_all (is_other l.answer) l.earlier

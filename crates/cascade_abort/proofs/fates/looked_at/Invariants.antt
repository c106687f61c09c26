use Rattle.std.proofs.Common.{drop, ◌+◌, ◌≡◌}
use Rattle.std.specs.List.{position_or_len}
use Rattle.cascade_abort.specs.Fates.{decides_at}
use Rattle.cascade_abort.proofs.fates.looked_at.Given as goal

abbrev pub invariant-loop-i : goal.invariant-loop-i
invariant-loop-i l = l.i + position_or_len (decides_at l.fates l.rs.0) (drop l.i l.deps) ≡ position_or_len (decides_at l.fates l.rs.0) l.deps

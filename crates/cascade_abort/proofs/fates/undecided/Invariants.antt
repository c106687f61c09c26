use Rattle.std.proofs.Common.{drop, filter, length, ◌++◌, ◌≡◌, ◌≤◌}
use Rattle.cascade_abort.specs.Fates.{stays_at}
use Rattle.cascade_abort.proofs.fates.undecided.Given as goal

abbrev pub invariant-loop-dep : goal.invariant-loop-dep
invariant-loop-dep l = record {
  few : length l.kept ≤ l.dep-index;
  rest : l.kept ++ filter (stays_at l.fates) (drop l.dep-index l.deps) ≡ filter (stays_at l.fates) l.deps;
}

use Rattle.std.proofs.Common.{drop, map, max, ◌≡◌}
use Rattle.cascade_abort.specs.Fates.{fc_at}
use Rattle.str_model.specs.Turns.{greatest}
use Rattle.cascade_abort.proofs.fates.raised.Given as goal

abbrev pub invariant-loop-dep : goal.invariant-loop-dep
invariant-loop-dep l = max l.last.0 (greatest (map (fc_at l.fates) (drop l.dep-index l.deps))) ≡ max l.fn.ffc.0 (greatest (map (fc_at l.fates) l.deps))

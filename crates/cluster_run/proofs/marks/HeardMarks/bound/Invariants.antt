use Rattle.std.proofs.Common.{min, ◌≡◌, ◌≤◌}
use Rattle.cluster_run.proofs.Bounds.{bound_from}
use Rattle.cluster_run.proofs.marks.HeardMarks.bound.Given as goal
use Rattle.str_model.specs.PrunedRuns.{bound}

abbrev pub invariant-loop-i : goal.invariant-loop-i
invariant-loop-i l = record {
  least : min l.least (bound_from l.fn.low.0 l.own l.i l.self) ≡ bound l.fn.low.0 l.own l.self;
  low : l.least ≤ l.fn.low.0;
}

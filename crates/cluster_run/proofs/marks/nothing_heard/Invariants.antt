use Rattle.std.proofs.Common.{◌≡◌, replicate}
use Rattle.cluster_run.proofs.marks.nothing_heard.Given as goal

abbrev pub invariant-loop-i : goal.invariant-loop-i
invariant-loop-i l = l.rows.items ≡ replicate l._i (replicate l.nodes 0)

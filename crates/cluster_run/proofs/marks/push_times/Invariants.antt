use Rattle.std.proofs.Common.{◌≡◌, ◌++◌, ◌+◌, replicate, vec_capacity, vec_len}
use Rattle.cluster_run.proofs.marks.push_times.Given as goal

abbrev pub invariant-loop-i : goal.invariant-loop-i
invariant-loop-i l = record {
  items : l.times.items ≡ l.initial.times.items ++ replicate l._i l.time;
  len : vec_len l.times ≡ vec_len l.initial.times + l._i;
  capacity : vec_capacity l.times ≡ vec_capacity l.initial.times;
}

use Rattle.std.proofs.Common.{◌≡◌, ◌++◌, ◌+◌, false, replicate, vec_capacity, vec_len}
use Rattle.cluster_run.proofs.flags.push_down.Given as goal

abbrev pub invariant-loop-i : goal.invariant-loop-i
invariant-loop-i l = record {
  items : l.flags.items ≡ l.initial.flags.items ++ replicate l._i false;
  len : vec_len l.flags ≡ vec_len l.initial.flags + l._i;
  capacity : vec_capacity l.flags ≡ vec_capacity l.initial.flags;
}

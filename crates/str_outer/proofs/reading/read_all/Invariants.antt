use Rattle.std.proofs.Common.{◌+◌, ◌≤◌, ◌-◌, vec_len}
use Rattle.str_base.specs.declared.limits.TheConstants.{INPUT_BYTES}
use Rattle.std.specs.Io.KnownBytes.{Consumes}
use Rattle.str_outer.proofs.reading.read_all.Given as goal

abbrev pub invariant-loop-buf : goal.invariant-loop-buf
invariant-loop-buf g l = record {
  fits : vec_len l.bytes ≤ INPUT_BYTES + 1;
  took : Consumes (g.S.Source.left l.fn.source) (g.S.Source.left l.source) l.bytes.items;
  later : g.S.Source.faults l.fn.source ≤ g.S.Source.faults l.source;
}

abbrev pub decreases-loop-buf : goal.decreases-loop-buf
decreases-loop-buf g l = INPUT_BYTES + 1 - vec_len l.bytes

use Rattle.std.proofs.Common.{◌≤◌, ◌-◌, length, take}
use Rattle.std.specs.Io.KnownBytes.{Appends}
use Rattle.str_outer.proofs.writing.write_all.Given as goal

abbrev pub invariant-loop-at : goal.invariant-loop-at
invariant-loop-at g l = record {
  in_range : l.at ≤ length l.text;
  took : Appends (g.K.Sink.held l.fn.sink) (g.K.Sink.held l.sink) (take l.at l.text);
  faults : g.K.Sink.faults l.fn.sink ≤ g.K.Sink.faults l.sink;
  wants : g.K.Sink.wants l.fn.sink ≤ g.K.Sink.wants l.sink;
}

abbrev pub decreases-loop-at : goal.decreases-loop-at
decreases-loop-at g l = length l.text - l.at

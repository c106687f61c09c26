use Rattle.run_io.proofs.Entries.{counts_of}
use Rattle.std.proofs.Common.{drop, take, ◌++◌, ◌≡◌, ◌≤◌}
use Rattle.str_model.specs.Lines.{journal_lines}
use Rattle.top_status.specs.Waiting.{WrittenBut}
use Rattle.run_io.proofs.journal.write_entries.Given as goal

abbrev pub invariant-loop-done : goal.invariant-loop-done
invariant-loop-done g l = record {
  later : g.K.Sink.faults l.fn.out ≤ g.K.Sink.faults l.out;
  rest : l.rest ≡ drop (counts_of (take l.done-index l.journal)) l.answers;
  written : WrittenBut (g.K.Sink.held l.fn.out) (g.K.Sink.held l.out) l.waiting.items (l.fn.waiting.items ++ journal_lines l.keys (take l.done-index l.journal) l.answers);
}

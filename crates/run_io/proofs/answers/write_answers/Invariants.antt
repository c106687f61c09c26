use Rattle.std.proofs.Common.{take, ◌++◌, ◌≤◌}
use Rattle.run_io.specs.Renderings.{answer_lines}
use Rattle.top_status.specs.Waiting.{WrittenBut}
use Rattle.run_io.proofs.answers.write_answers.Given as goal

abbrev pub invariant-loop-answer : goal.invariant-loop-answer
invariant-loop-answer g l = record {
  later : g.K.Sink.faults l.fn.out ≤ g.K.Sink.faults l.out;
  written : WrittenBut (g.K.Sink.held l.fn.out) (g.K.Sink.held l.out) l.waiting.items (l.fn.waiting.items ++ answer_lines l.keys (take l.answer-index l.answers));
}

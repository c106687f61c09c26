use Rattle.run_io.proofs.Rendered.{end_partly, end_written, lines_left, lines_partly}
use Rattle.run_io.specs.Renderings.{answer_lines}
use Rattle.top_status.proofs.Failing.{on_err}
use Rattle.run_io.proofs.answers.write_rendering.Goals as goal

pub returns-in_err-write_answers-clause-partial : goal.returns-in_err-write_answers-clause-partial
returns-in_err-write_answers-clause-partial g c =
    on_err c.from_residual.result (lines_partly (answer_lines c.args.keys.now c.args.answers.now) _ _ _ _ c.new-waiting.ensures.items c.in_err-write_answers.ensures.partial)

pub returns-in_err-push_end-clause-partial : goal.returns-in_err-push_end-clause-partial
returns-in_err-push_end-clause-partial g c =
    on_err c.from_residual-in_err-push_end.result
    (lines_left (answer_lines c.args.keys.now c.args.answers.now) _ _ _ _ _ c.new-waiting.ensures.items c.in_ok-write_answers.ensures.written)

pub returns-clause-written : goal.returns-clause-written
returns-clause-written g c =
    end_written (answer_lines c.args.keys.now c.args.answers.now) _ _ _ _ _ _ _ _ c.write_piece.result c.new-waiting.ensures.items c.in_ok-push_end.ensures.ok c.as_slice.ensures.value
    c.in_ok-write_answers.ensures.written c.write_piece.ensures.written

pub returns-clause-partial : goal.returns-clause-partial
returns-clause-partial g c =
    end_partly (answer_lines c.args.keys.now c.args.answers.now) _ _ _ _ _ _ _ _ c.write_piece.result c.new-waiting.ensures.items c.in_ok-push_end.ensures.ok c.as_slice.ensures.value
    c.in_ok-write_answers.ensures.written c.write_piece.ensures.partial

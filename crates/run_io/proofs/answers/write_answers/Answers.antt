use Rattle.std.proofs.Common.{arith}
use Rattle.str_model.specs.Lines.{answer_line}
use Rattle.run_io.proofs.Behind.{line_partly, none_behind, one_line, some_lines}
use Rattle.top_status.proofs.Failing.{on_err}
use Rattle.run_io.proofs.answers.write_answers.Goals as goal

pub loop-answer-init : goal.loop-answer-init
loop-answer-init g c = record { later = omega arith; written = none_behind _ _ }

pub loop-answer-preserved : goal.loop-answer-preserved
loop-answer-preserved g c =
    let later = c.in_ok-write_full.ensures.later in
    let before = c.loop-answer.invariant.later in
    record {
      later = omega arith;
      written = one_line _ _ _ (answer_line c.args.keys.now) c.args.waiting.now.items c.args.answers.now c.loop-answer.answer-index c.answer-item.result
          c.loop-answer.waiting.items c.push_line.new.out.items _ c.loop-answer-test.true c.answer-item.is c.in_ok-push_line.ensures.ok
          c.loop-answer.invariant.written c.in_ok-write_full.ensures.written;
    }

pub returns-in_err-push_line-clause-partial : goal.returns-in_err-push_line-clause-partial
returns-in_err-push_line-clause-partial g c =
    on_err c.from_residual.result
    (some_lines _ _ (answer_line c.args.keys.now) c.args.waiting.now.items c.args.answers.now c.loop-answer.answer-index c.loop-answer.waiting.items c.loop-answer.invariant.written)

pub returns-in_err-write_full-clause-partial : goal.returns-in_err-write_full-clause-partial
returns-in_err-write_full-clause-partial g c =
    on_err c.from_residual-in_err-write_full.result
    (line_partly _ _ _ (answer_line c.args.keys.now) c.args.waiting.now.items c.args.answers.now c.loop-answer.answer-index c.answer-item.result
    c.loop-answer.waiting.items c.push_line.new.out.items c.loop-answer-test.true c.answer-item.is c.in_ok-push_line.ensures.ok
    c.loop-answer.invariant.written c.in_err-write_full.ensures.partial)

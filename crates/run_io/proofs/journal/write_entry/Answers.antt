use Rattle.run_io.proofs.Behind.{entry_partly, entry_written, line_only}
use Rattle.top_status.proofs.Failing.{on_err}
use Rattle.run_io.proofs.journal.write_entry.Goals as goal

pub returns-in_err-write_full-clause-partial : goal.returns-in_err-write_full-clause-partial
returns-in_err-write_full-clause-partial g c =
    on_err c.from_residual-in_err-write_full.result (line_only _ _ c.args.waiting.now.items _ _ _ c.in_ok-push_done.ensures.ok c.in_err-write_full.ensures.partial)

pub returns-clause-written : goal.returns-clause-written
returns-clause-written g c =
    entry_written _ _ _ c.args.waiting.now.items _ _ _ _ _ c.write_answers.result c.in_ok-push_done.ensures.ok c.in_ok-write_full.ensures.written c.write_answers.ensures.written

pub returns-clause-partial : goal.returns-clause-partial
returns-clause-partial g c =
    entry_partly _ _ _ c.args.waiting.now.items _ _ _ _ c.write_answers.result c.in_ok-push_done.ensures.ok c.in_ok-write_full.ensures.written c.write_answers.ensures.partial

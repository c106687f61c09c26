use Rattle.run_io.proofs.RunCalls.{done_of, input_refused_of, nothing_written, part_written, read_rose, run_completes, run_refuses, unasked_of, usage_comes, write_rose}
use Rattle.std.proofs.Common.{subst, sym, ◌∙◌}
use Rattle.top_status.specs.Failures.{refusal_of}
use Rattle.top_status.specs.Statuses.{IsQuiet, IsStopped}
use Rattle.door.proofs.tops.door_top.Goals as goal

pub returns-clause-done : goal.returns-clause-done
returns-clause-done g c = λ e. done_of c.do_words-done.result c.do_words-done.ensures.done (sym c.report.ensures.status ∙ e)

pub returns-clause-usage : goal.returns-clause-usage
returns-clause-usage g c = λ e. unasked_of _ _ _ _ _ _ _ _ _ _ c.do_words-done.result c.do_words-done.ensures.failed (sym c.report.ensures.status ∙ e)

pub returns-clause-unknown : goal.returns-clause-unknown
returns-clause-unknown g c =
    λ n. c.report.ensures.status ∙ usage_comes _ _ _ _ _ _ _ _ _ _ c.do_words-done.result c.do_words-done.ensures.asked c.do_words-done.ensures.failed n

pub returns-clause-read_fault : goal.returns-clause-read_fault
returns-clause-read_fault g c = λ e. read_rose _ _ _ _ _ _ _ _ _ _ c.do_words-done.result c.do_words-done.ensures.failed (sym c.report.ensures.status ∙ e)

pub returns-clause-write_fault : goal.returns-clause-write_fault
returns-clause-write_fault g c = λ e. write_rose _ _ _ _ _ _ _ _ _ _ c.do_words-done.result c.do_words-done.ensures.failed (sym c.report.ensures.status ∙ e)

pub returns-clause-quiet : goal.returns-clause-quiet
returns-clause-quiet g c =
    λ q. nothing_written _ _ _ _ _ _ _ _ _ _ c.do_words-done.result c.do_words-done.ensures.failed (subst IsQuiet c.report.ensures.status q)

pub returns-clause-partial : goal.returns-clause-partial
returns-clause-partial g c =
    λ p. part_written _ _ _ _ _ _ _ _ _ _ c.do_words-done.result c.do_words-done.ensures.failed (subst IsStopped c.report.ensures.status p)

pub returns-clause-complete : goal.returns-clause-complete
returns-clause-complete g c =
    run_completes _ _ _ _ _ _ _ _ _ _ c.do_words-done.result c.report.result c.report.ensures.status c.do_words-done.ensures.failed

pub returns-clause-refuses : goal.returns-clause-refuses
returns-clause-refuses g c =
    run_refuses _ _ _ _ _ _ _ _ _ _ c.do_words-done.result c.report.result c.report.ensures.status c.do_words-done.ensures.done c.do_words-done.ensures.failed

pub returns-clause-told : goal.returns-clause-told
returns-clause-told g c = record {
  said = refusal_of c.do_words-done.result;
  refused = λ e. input_refused_of _ _ _ _ _ _ _ _ _ _ c.do_words-done.result c.do_words-done.ensures.failed (sym c.report.ensures.status ∙ e);
  tells = c.report.ensures.told;
}

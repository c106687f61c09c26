use Rattle.std.proofs.Common.{subst, sym, ◌∙◌, ◌≡◌, ◌⊎◌}
use Rattle.strun.proofs.Calls.{completes, partial_of, quiet_of, read_of, refused_of, refuses, unknown_of, usage_of, write_of}
use Rattle.run_io.proofs.RunCalls.{done_of}
use Rattle.strun.proofs.tops.top.Goals as goal
use Rattle.top_status.specs.Failures.{refusal_of}
use Rattle.top_status.specs.Statuses.{IsQuiet, IsStopped}
use Rattle.top_status.specs.declared.status.Status.{Status}
use Rattle.top_status.specs.declared.status.Status.TheVariants.{NoMemory, Usage}

pub returns-clause-done : goal.returns-clause-done
returns-clause-done g c = λ e. done_of c.do_words-done.result c.do_words-done.ensures.done (sym c.report.ensures.status ∙ e)

pub returns-clause-usage : goal.returns-clause-usage
returns-clause-usage g c = λ e. usage_of _ _ _ _ _ _ _ _ _ c.do_words-done.result c.do_words-done.ensures.failed (sym c.report.ensures.status ∙ e)

pub returns-clause-unknown : goal.returns-clause-unknown
returns-clause-unknown g c =
    λ n. subst (λ (s : Status). (s ≡ Usage) ⊎ (s ≡ NoMemory)) (sym c.report.ensures.status)
    (unknown_of _ _ _ _ _ _ _ _ _ c.do_words-done.result c.do_words-done.ensures.done c.do_words-done.ensures.failed n)

pub returns-clause-unread : goal.returns-clause-unread
returns-clause-unread g c = c.do_words-done.ensures.unread

pub returns-clause-read_fault : goal.returns-clause-read_fault
returns-clause-read_fault g c = λ e. read_of _ _ _ _ _ _ _ _ _ c.do_words-done.result c.do_words-done.ensures.failed (sym c.report.ensures.status ∙ e)

pub returns-clause-write_fault : goal.returns-clause-write_fault
returns-clause-write_fault g c = λ e. write_of _ _ _ _ _ _ _ _ _ c.do_words-done.result c.do_words-done.ensures.failed (sym c.report.ensures.status ∙ e)

pub returns-clause-quiet : goal.returns-clause-quiet
returns-clause-quiet g c = λ q. quiet_of _ _ _ _ _ _ _ _ _ c.do_words-done.result c.do_words-done.ensures.failed (subst IsQuiet c.report.ensures.status q)

pub returns-clause-partial : goal.returns-clause-partial
returns-clause-partial g c = λ p. partial_of _ _ _ _ _ _ _ _ _ c.do_words-done.result c.do_words-done.ensures.failed (subst IsStopped c.report.ensures.status p)

pub returns-clause-complete : goal.returns-clause-complete
returns-clause-complete g c =
    completes _ _ _ _ _ _ _ _ _ c.do_words-done.result c.report.result c.report.ensures.status c.do_words-done.ensures.failed

pub returns-clause-refuses : goal.returns-clause-refuses
returns-clause-refuses g c =
    refuses _ _ _ _ _ _ _ _ _ c.do_words-done.result c.report.result c.report.ensures.status c.do_words-done.ensures.done c.do_words-done.ensures.failed

pub returns-clause-told : goal.returns-clause-told
returns-clause-told g c = record {
  said = refusal_of c.do_words-done.result;
  refused = λ e. refused_of _ _ _ _ _ _ _ _ _ c.do_words-done.result c.do_words-done.ensures.failed (sym c.report.ensures.status ∙ e);
  tells = c.report.ensures.told;
}

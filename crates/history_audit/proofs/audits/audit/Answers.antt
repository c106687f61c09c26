use Rattle.std.proofs.Common.{List, refl, subst, take, ◌+◌, ◌∙◌}
use Rattle.history_audit.proofs.Findings.{all_prefixes, one_prefix}
use Rattle.history_audit.proofs.SeenOnLedgers.{no_run}
use Rattle.history_audit.specs.Verdicts.{IsFound, LeastFailing}
use Rattle.si_laws.specs.SnapshotIsolation.{SIRun}
use Rattle.str_model.specs.declared.messages.Answer.{Answer}
use Rattle.history_audit.proofs.audits.audit.Goals as goal

pub returns-in-Some-clause-yes : goal.returns-in-Some-clause-yes
returns-in-Some-clause-yes c =
    let j = c.loop-count.count + 1 in
    let found = subst (IsFound c.args.scene.now (take j c.as_slice-answers.result.now)) c.in-Some.is c.in_ok-failing.ensures.found in
    let fails = subst (λ (all : List Answer). LeastFailing c.args.scene.now (take j all) c.in-Some.clause) c.as_slice-answers.ensures.value found in
    (λ e. absurd (cc e), λ r. absurd (no_run c.args.scene.now c.args.answers.now.items j c.in-Some.clause fails r))

pub loop-count-preserved : goal.loop-count-preserved
loop-count-preserved c = record {
  before = one_prefix c.args.scene.now c.as_slice-answers.result.now c.loop-count.count c.loop-count.invariant.before
      (subst (IsFound c.args.scene.now (take (c.loop-count.count + 1) c.as_slice-answers.result.now)) c.in-None.is c.in_ok-failing.ensures.found);
  order = c.in_ok-failing.ensures.order c.in-None.is;
  keys = c.in_ok-failing.ensures.keys ∙ c.loop-count.invariant.keys;
}

pub returns-clause-verdict : goal.returns-clause-verdict
returns-clause-verdict c =
    subst (SIRun c.args.scene.now) c.as_slice-answers.ensures.value
    (all_prefixes c.args.scene.now c.as_slice-answers.result.now c.loop-count.count c.loop-count-test.false c.loop-count.invariant.before)

pub returns-clause-yes : goal.returns-clause-yes
returns-clause-yes c = (
  λ e. subst (SIRun c.args.scene.now) c.as_slice-answers.ensures.value
      (all_prefixes c.args.scene.now c.as_slice-answers.result.now c.loop-count.count c.loop-count-test.false c.loop-count.invariant.before),
  λ r. refl,
)

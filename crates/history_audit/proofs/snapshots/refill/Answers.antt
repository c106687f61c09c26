use Rattle.std.proofs.Common.{ap, ◌∙◌}
use Rattle.history_audit.proofs.LoopSteps.{filled_all, filled_next, filled_none}
use Rattle.str_model.specs.Evaluation.{Evaluated}
use Rattle.history_audit.proofs.snapshots.refill.Goals as goal

pub loop-commit-init : goal.loop-commit-init
loop-commit-init c = filled_none c.args.scene.now c.args.order.now c.clear.new.self (c.clear.ensures.keys ∙ c.requires.keys) c.clear.ensures.none

pub loop-commit-preserved : goal.loop-commit-preserved
loop-commit-preserved c =
    filled_next c.args.scene.now c.script_at.ensures.limits c.args.order.now c.requires.rising c.loop-commit.commit-index _ c.loop-commit.ledger c.push.new.self c.script_at.result c.evaluate-done.result _ c.loop-commit-test.true
    c.script_at.ensures.script c.evaluate-done.ensures (ap (λ (e : Evaluated). e.writes) c.done.view_is) c.in_ok-push.ensures.list c.loop-commit.invariant

pub returns-clause-filled : goal.returns-clause-filled
returns-clause-filled c = filled_all c.args.scene.now c.args.order.now c.loop-commit.commit-index c.loop-commit.ledger c.loop-commit-test.false c.loop-commit.invariant

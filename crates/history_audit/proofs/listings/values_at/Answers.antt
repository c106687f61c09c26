use Rattle.std.proofs.Common.{ap, length, subst, sym, ◌∙◌}
use Rattle.std.proofs.lemmas.Result.{IfOk-weaker}
use Rattle.history_audit.proofs.Findings.{run_rising}
use Rattle.history_audit.proofs.ValuesSame.{run_named, values_same}
use Rattle.history_audit.specs.Orders.{order_of}
use Rattle.si_laws.proofs.CommitLists.CommitOrder.{Named}
use Rattle.str_scene.specs.Scenes.{KeyTable}
use Rattle.history_audit.proofs.listings.values_at.Goals as goal

pub order_of-requires : goal.order_of-requires
order_of-requires c = subst Named (sym c.deref.ensures.value) (run_named c.args.scene.now c.args.answers.now.items c.requires)

pub refill-requires-clause-rising : goal.refill-requires-clause-rising
refill-requires-clause-rising c =
    run_rising c.args.scene.now c.args.answers.now.items c.deref-2.result.now c.requires (c.deref-2.ensures.value ∙ (c.in_ok-order.ensures ∙ ap order_of c.deref.ensures.value))

pub returns : goal.returns
returns c =
    IfOk-weaker c.listed.result _ _
    (λ v e. values_same c.args.scene.now c.args.answers.now.items c.deref-2.result.now _ c.args.t.0 c.len-keys.result v.items
    (c.deref-2.ensures.value ∙ (c.in_ok-order.ensures ∙ ap order_of c.deref.ensures.value)) c.in_ok-refill.ensures.filled
    (c.len-keys.ensures.value ∙ ap (λ (k : KeyTable). length k.names) c.keys.ensures.value) e) c.listed.ensures

use Rattle.std.proofs.Common.{ap, Some, slice_get, sym, ◌∙◌}
use Rattle.std.specs.Option.{option_copied}
use Rattle.node_core.proofs.Waiting.WaiterSteps.{waiter_facts}
use Rattle.node_core.specs.Working.{WorkState}
use Rattle.str_model.specs.declared.messages.Waiter.TheVariants.{Held, Read}
use Rattle.node_core.proofs.work.Work.waiter_turn.Goals as goal

pub serve_turn-requires-clause-key : goal.serve_turn-requires-clause-key
serve_turn-requires-clause-key c =
    let got = ap (λ (w : WorkState). slice_get w.doing.view.waiters c.args.j) (sym c.self.view_is) ∙ (sym c.get.ensures ∙ ap (λ o. option_copied o) c.in-Some.is) in
    (waiter_facts c.args.self.now c.args.j (Read c.in-Read.tx c.in-Read.key c.in-Read.rs) c.requires.facts (got ∙ ap (λ r. Some r) c.in-Read.is)).key

pub serve_turn-requires-clause-hosted : goal.serve_turn-requires-clause-hosted
serve_turn-requires-clause-hosted c =
    let got = ap (λ (w : WorkState). slice_get w.doing.view.waiters c.args.j) (sym c.self.view_is) ∙ (sym c.get.ensures ∙ ap (λ o. option_copied o) c.in-Some.is) in
    (waiter_facts c.args.self.now c.args.j (Read c.in-Read.tx c.in-Read.key c.in-Read.rs) c.requires.facts (got ∙ ap (λ r. Some r) c.in-Read.is)).hosted

pub retry_turn-requires-clause-named : goal.retry_turn-requires-clause-named
retry_turn-requires-clause-named c =
    let got = ap (λ (w : WorkState). slice_get w.doing.view.waiters c.args.j) (sym c.self.view_is) ∙ (sym c.get.ensures ∙ ap (λ o. option_copied o) c.in-Some.is) in
    (waiter_facts c.args.self.now c.args.j (Held c.in-Held.a) c.requires.facts (got ∙ ap (λ r. Some r) c.in-Held.is)).named

pub retry_turn-requires-clause-masters : goal.retry_turn-requires-clause-masters
retry_turn-requires-clause-masters c =
    let got = ap (λ (w : WorkState). slice_get w.doing.view.waiters c.args.j) (sym c.self.view_is) ∙ (sym c.get.ensures ∙ ap (λ o. option_copied o) c.in-Some.is) in
    (waiter_facts c.args.self.now c.args.j (Held c.in-Held.a) c.requires.facts (got ∙ ap (λ r. Some r) c.in-Held.is)).masters

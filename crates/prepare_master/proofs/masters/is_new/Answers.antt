use Rattle.std.proofs.Common.{sym, ◌∙◌}
use Rattle.std.proofs.lemmas.Bool.{not-false, not-true}
use Rattle.prepare_master.proofs.Showing.{led, not_led}
use Rattle.prepare_master.proofs.masters.is_new.Goals as goal

pub returns-then-ne : goal.returns-then-ne
returns-then-ne c =
    sym (not_led c.args.map.now c.args.node c.args.store.now.versions c.args.done.now.pairs c.args.parked.now.waiters c.args.a.now c.master.result c.master.ensures
    (not-true _ (sym c.ne.ensures ∙ c.if-ne.true)))

pub returns : goal.returns
returns c =
    sym (led c.args.map.now c.args.node c.args.store.now.versions c.args.done.now.pairs c.args.parked.now.waiters c.args.a.now c.master.result c.has-3.result c.master.ensures
    (not-false _ (sym c.ne.ensures ∙ c.if-ne.false)) (sym c.eq.ensures ∙ c.if-eq.false) (sym c.has.ensures ∙ c.if-has.false) (sym c.has-2.ensures.value ∙ c.if-has-2.false) c.has-3.ensures)

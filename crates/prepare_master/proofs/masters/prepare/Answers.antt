use Rattle.std.proofs.Common.{sym, ◌∙◌}
use Rattle.prepare_master.proofs.Showing.{shown_prepared}
use Rattle.prepare_master.proofs.masters.prepare.Goals as goal

pub returns-then-is_new-clause-turn : goal.returns-then-is_new-clause-turn
returns-then-is_new-clause-turn c here view at s d w =
    c.judge.ensures
    ∙ sym (shown_prepared here c.args.node c.args.map.now view c.args.a.now c.args.store.now.versions c.args.marks.now c.args.done.now.pairs c.args.parked.now.waiters at s d w _ (sym c.is_new.ensures ∙ c.if-is_new.true))

pub returns-else-is_new-clause-turn : goal.returns-else-is_new-clause-turn
returns-else-is_new-clause-turn c here view at s d w =
    sym (shown_prepared here c.args.node c.args.map.now view c.args.a.now c.args.store.now.versions c.args.marks.now c.args.done.now.pairs c.args.parked.now.waiters at s d w _ (sym c.is_new.ensures ∙ c.if-is_new.false))

use Rattle.std.proofs.Common.{sym, ◌∙◌}
use Rattle.prepare_master.proofs.Showing.{shown_judged}
use Rattle.prepare_master.proofs.masters.retry.Goals as goal

pub returns-clause-turn : goal.returns-clause-turn
returns-clause-turn c view s = c.judge.ensures ∙ sym (shown_judged view c.args.a.now c.args.store.now.versions c.args.marks.now s)

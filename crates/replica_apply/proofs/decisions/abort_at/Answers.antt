use Rattle.replica_apply.proofs.Shown.{abort_shown}
use Rattle.replica_apply.proofs.decisions.abort_at.Goals as goal

pub returns-clause-view : goal.returns-clause-view
returns-clause-view c = λ t d r e w.
    abort_shown c.args.tx c.args.part d c.args.store.now.versions r c.remove.ensures.kept.0.0 c.args.done.now.pairs c.add.new.self.pairs e c.add.ensures.pairs
    c.remove.new.self.versions c.args.parked.now.waiters c.drop_one.new.self.waiters c.remove.ensures.versions w c.drop_one.ensures.waiters

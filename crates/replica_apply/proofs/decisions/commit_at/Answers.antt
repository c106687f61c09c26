use Rattle.replica_apply.proofs.Shown.{commit_shown}
use Rattle.replica_apply.proofs.decisions.commit_at.Goals as goal

pub returns-clause-view : goal.returns-clause-view
returns-clause-view c = λ t d r m e.
    commit_shown c.args.tx c.args.part d c.args.store.now.versions r c.finalise.ensures.kept.0.0 c.args.done.now.pairs c.add.new.self.pairs e c.add.ensures.pairs c.args.fc.0 c.args.given.now
    c.finalise.new.self.versions c.args.marks.now c.raise_all.new.marks c.finalise.ensures.versions m c.raise_all.ensures.marks

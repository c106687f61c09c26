use Rattle.node_core.proofs.Parts.HeldChanges.{unwait_did}
use Rattle.node_core.proofs.work.Work.unwait.Goals as goal

pub returns-clause-done : goal.returns-clause-done
returns-clause-done c = rw (← c.self.view_is) (unwait_did c.self.inside.site c.self.inside.held c.self.inside.own c.self.inside.out c.self.inside.left c.self.inside.room c.take.new.self c.args.j c.take.ensures.waiters)

use Rattle.cluster_run.proofs.Draining.{turn_lowers}
use Rattle.cluster_run.proofs.clusters.Cluster.drain_step.Goals as goal

pub returns-clause-lowers : goal.returns-clause-lowers
returns-clause-lowers c =
    turn_lowers c.args.self.now.scene c.event.new.self.scene c.args.self.now.world c.event.new.self.world c.in-Some.event c.next_event.ensures.limits c.next_event.ensures.run c.in-Some.ensures.event
    c.event.ensures.scene c.in_ok-event.ensures.ok

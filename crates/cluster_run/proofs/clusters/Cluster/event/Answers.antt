use Rattle.std.proofs.Common.{ap, ◌∙◌}
use Rattle.cluster_run.proofs.Kept.{comes_back, comes_world, event_keeps, may_happen, same_scene}
use Rattle.cluster_run.specs.Clusters.{ClusterState, world_of}
use Rattle.cluster_run.proofs.clusters.Cluster.event.Goals as goal
use Rattle.str_model.specs.Runs.{happens}

pub invariant_of-self : goal.invariant_of-self
invariant_of-self c = event_keeps c.event.result c.self.inside.parts c.event.new.self c.args.event c.self.invariant c.event.ensures.ok c.event.ensures.err

pub returns-clause-scene : goal.returns-clause-scene
returns-clause-scene c =
    let p = c.self.inside.parts in
    same_scene c.event.result p c.event.new.self (happens p.scene (world_of p) c.args.event) (world_of p) c.event.ensures.ok c.event.ensures.err ∙ ap (λ (s : ClusterState). s.scene) c.self.view_is

pub returns-clause-ok : goal.returns-clause-ok
returns-clause-ok c =
    let p = c.self.inside.parts in
    rw (← c.self.view_is) (comes_world c.event.result p c.event.new.self (happens p.scene (world_of p) c.args.event) c.event.ensures.ok)

pub returns-clause-idle : goal.returns-clause-idle
returns-clause-idle c = rw (← c.self.view_is) c.event.ensures.idle

pub returns-clause-err : goal.returns-clause-err
returns-clause-err c = rw (← c.self.view_is) (comes_back c.event.result c.self.inside.parts c.event.new.self c.event.ensures.err)

pub returns-clause-run : goal.returns-clause-run
returns-clause-run c = (event_keeps c.event.result c.self.inside.parts c.event.new.self c.args.event c.self.invariant c.event.ensures.ok c.event.ensures.err).run_

pub event-requires : goal.event-requires
event-requires c = may_happen c.self.inside.parts c.args.event c.self.invariant

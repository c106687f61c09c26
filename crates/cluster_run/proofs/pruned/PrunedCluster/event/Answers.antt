use Rattle.std.proofs.Common.{ap, ◌∙◌}
use Rattle.cluster_run.proofs.PrunedOf.{pruned_back, pruned_keeps, pruned_may, pruned_scene, pruned_state}
use Rattle.cluster_run.proofs.pruned.PrunedCluster.event.Goals as goal
use Rattle.cluster_run.specs.PrunedStates.{PrunedState, pruned_of}
use Rattle.str_model.specs.PrunedRuns.{pruned_happens}

pub event-requires : goal.event-requires
event-requires c = pruned_may c.self.inside.parts c.args.event c.self.invariant

pub invariant_of-self : goal.invariant_of-self
invariant_of-self c = pruned_keeps c.event.result c.self.inside.parts c.event.new.self c.args.event c.self.invariant c.event.ensures.ok c.event.ensures.err

pub returns-clause-scene : goal.returns-clause-scene
returns-clause-scene c =
    let p = c.self.inside.parts in
    pruned_scene c.event.result p c.event.new.self (pruned_happens p.cluster.scene (pruned_of p) c.args.event) (pruned_of p) c.event.ensures.ok c.event.ensures.err ∙ ap (λ (s : PrunedState). s.scene) c.self.view_is

pub returns-clause-ok : goal.returns-clause-ok
returns-clause-ok c =
    let p = c.self.inside.parts in
    rw (← c.self.view_is) (pruned_state c.event.result p c.event.new.self (pruned_happens p.cluster.scene (pruned_of p) c.args.event) c.event.ensures.ok)

pub returns-clause-idle : goal.returns-clause-idle
returns-clause-idle c = rw (← c.self.view_is) c.event.ensures.idle

pub returns-clause-err : goal.returns-clause-err
returns-clause-err c = rw (← c.self.view_is) (pruned_back c.event.result c.self.inside.parts c.event.new.self c.event.ensures.err)

pub returns-clause-run : goal.returns-clause-run
returns-clause-run c = (pruned_keeps c.event.result c.self.inside.parts c.event.new.self c.args.event c.self.invariant c.event.ensures.ok c.event.ensures.err).run_

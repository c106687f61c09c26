use Rattle.cluster_run.proofs.PrunedOf.{pruned_few}
use Rattle.cluster_run.proofs.pruned.PrunedCluster.counts.Goals as goal
use Rattle.cluster_run.specs.PrunedStates.{pruned_of}

pub counts-requires : goal.counts-requires
counts-requires c = let p = c.self.inside.parts in pruned_few p.cluster.scene (pruned_of p) c.self.invariant.limits c.self.invariant.run_

pub returns : goal.returns
returns c = rw (← c.self.view_is) c.counts.ensures

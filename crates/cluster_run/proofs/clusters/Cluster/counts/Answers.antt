use Rattle.cluster_run.proofs.Counting.{are_few}
use Rattle.cluster_run.proofs.clusters.Cluster.counts.Goals as goal
use Rattle.cluster_run.specs.Clusters.{world_of}

pub counts-requires : goal.counts-requires
counts-requires c = let p = c.self.inside.parts in are_few p.scene (world_of p) c.self.invariant.limits c.self.invariant.run_

pub returns : goal.returns
returns c = rw (← c.self.view_is) c.counts.ensures

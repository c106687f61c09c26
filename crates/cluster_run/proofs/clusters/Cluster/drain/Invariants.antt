use Rattle.std.proofs.Common.{◌≡◌}
use Rattle.cluster_run.specs.Clusters.{PartlyDrained}
use Rattle.cluster_run.proofs.clusters.Cluster.drain.Given as goal
use Rattle.str_model.specs.Work.{left}

abbrev pub invariant-loop-event : goal.invariant-loop-event
invariant-loop-event l = record {
  scene : l.self.scene ≡ l.initial.self.scene;
  partly : PartlyDrained l.initial.self.scene l.initial.self.world l.self.world;
}

abbrev pub decreases-loop-event : goal.decreases-loop-event
decreases-loop-event l = left l.self.scene l.self.world

use Rattle.std.proofs.Common.{◌≡◌, take}
use Rattle.cluster_run.specs.Clusters.{IsRun}
use Rattle.cluster_run.proofs.clusters.Cluster.run_schedule.Given as goal
use Rattle.str_model.specs.Runs.{run_from}

abbrev pub invariant-loop-i : goal.invariant-loop-i
invariant-loop-i l = record {
  scene : l.self.scene ≡ l.initial.self.scene;
  done : l.self.world ≡ run_from l.initial.self.scene l.initial.self.world (take l.i l.initial.self.scene.schedule);
  run : IsRun l.self.scene l.self.world;
}

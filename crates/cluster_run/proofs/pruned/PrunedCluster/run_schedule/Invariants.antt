use Rattle.std.proofs.Common.{◌≡◌, take}
use Rattle.cluster_run.specs.PrunedStates.{IsPrunedRun}
use Rattle.cluster_run.proofs.pruned.PrunedCluster.run_schedule.Given as goal
use Rattle.str_model.specs.PrunedRuns.{pruned_from}

abbrev pub invariant-loop-i : goal.invariant-loop-i
invariant-loop-i l = record {
  scene : l.self.scene ≡ l.initial.self.scene;
  done : l.self.state ≡ pruned_from l.initial.self.scene l.initial.self.state (take l.i l.initial.self.scene.schedule);
  run : IsPrunedRun l.self.scene l.self.state;
}

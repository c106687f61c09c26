use Rattle.std.proofs.Common.{◌≡◌}
use Rattle.cluster_run.specs.PrunedStates.{PartOfDrain}
use Rattle.cluster_run.proofs.pruned.PrunedCluster.drain.Given as goal
use Rattle.str_model.specs.Work.{left}

abbrev pub invariant-loop-event : goal.invariant-loop-event
invariant-loop-event l = record {
  scene : l.self.scene ≡ l.initial.self.scene;
  partly : PartOfDrain l.initial.self.scene l.initial.self.state l.self.state;
}

abbrev pub decreases-loop-event : goal.decreases-loop-event
decreases-loop-event l = left l.self.scene l.self.state.world

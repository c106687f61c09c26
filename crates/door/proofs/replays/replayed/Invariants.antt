use Rattle.cluster_run.specs.Clusters.{events_of}
use Rattle.std.proofs.Common.{take, ◌≡◌}
use Rattle.str_model.specs.Runs.{run}
use Rattle.door.proofs.replays.replayed.Given as goal

abbrev pub invariant-loop-done : goal.invariant-loop-done
invariant-loop-done l = record {
  scene : l.cluster.scene ≡ l.fn.scene;
  world : l.cluster.world ≡ run l.fn.scene (events_of (take l.done-index l.journal));
}

use Rattle.std.proofs.Common.{length, ◌<◌, ◌∙◌}
use Rattle.cluster_run.proofs.PrunedDraining.{one_more_pruned}
use Rattle.cluster_run.proofs.pruned.PrunedCluster.run_schedule.Goals as goal

pub loop-i-preserved : goal.loop-i-preserved
loop-i-preserved c =
    let within : c.loop-i.i < length c.args.self.now.scene.schedule = rw (← c.scene.ensures.value, ← c.schedule-i-end.ensures.value) c.loop-i-test.true in
    let event = rw (c.schedule.ensures.value, c.scene-in-loop-i.ensures.value, c.loop-i.invariant.scene) at c.in_ok-event.ensures.ok in
    record {
      scene = c.event.ensures.scene ∙ c.loop-i.invariant.scene;
      done = event ∙ one_more_pruned c.args.self.now.scene c.args.self.now.state c.loop-i.self.state c.args.self.now.scene.schedule c.loop-i.i _ within c.loop-i.invariant.done;
      run = c.event.ensures.run;
    }

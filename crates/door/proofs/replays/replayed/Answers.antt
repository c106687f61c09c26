use Rattle.door.proofs.Replaying.{replayed_more}
use Rattle.run_io.proofs.Entries.{no_entry}
use Rattle.std.proofs.Common.{◌∙◌}
use Rattle.door.proofs.replays.replayed.Goals as goal

pub loop-done-preserved : goal.loop-done-preserved
loop-done-preserved c =
    let l = c.loop-done in
    record {
      scene = c.event.ensures.scene ∙ l.invariant.scene;
      world = replayed_more c.args.scene l.cluster.scene c.args.journal.now l.done-index no_entry l.cluster.world c.event.new.self.world c.loop-done-test.true l.invariant.scene l.invariant.world
          c.in_ok-event.ensures.ok;
    }

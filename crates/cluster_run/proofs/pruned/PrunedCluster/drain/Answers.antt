use Rattle.std.proofs.Common.{refl, sym, ◌∙◌}
use Rattle.cluster_run.proofs.PrunedDraining.{pruned_begins, pruned_ended, pruned_lowers, pruned_over, pruned_turn}
use Rattle.cluster_run.proofs.pruned.PrunedCluster.drain.Goals as goal

pub loop-event-init : goal.loop-event-init
loop-event-init c = record { scene = refl; partly = pruned_begins c.args.self.now.scene c.args.self.now.state }

pub loop-event-smaller : goal.loop-event-smaller
loop-event-smaller c =
    pruned_lowers c.loop-event.self.scene c.event.new.self.scene c.loop-event.self.state c.event.new.self.state c.in-Some.event c.next_event.ensures.limits c.next_event.ensures.run c.in-Some.ensures.event
    c.event.ensures.scene c.in_ok-event.ensures.ok

pub loop-event-preserved : goal.loop-event-preserved
loop-event-preserved c =
    record {
      scene = c.event.ensures.scene ∙ c.loop-event.invariant.scene;
      partly = pruned_turn c.args.self.now.scene c.loop-event.self.scene c.args.self.now.state c.loop-event.self.state c.event.new.self.state c.in-Some.event
          c.loop-event.invariant.scene c.next_event.ensures.limits c.next_event.ensures.run c.in-Some.ensures.event c.in_ok-event.ensures.ok c.loop-event.invariant.partly;
    }

pub returns-clause-ended : goal.returns-clause-ended
returns-clause-ended c = pruned_ended c.loop-event.self.scene c.loop-event.self.state c.next_event.ensures.limits c.next_event.ensures.run (sym c.in_default.is ∙ c.next_event.ensures.event)

pub returns-clause-ok : goal.returns-clause-ok
returns-clause-ok c =
    pruned_over c.args.self.now.scene c.loop-event.self.scene c.args.self.now.state c.loop-event.self.state c.loop-event.invariant.scene c.next_event.ensures.limits c.next_event.ensures.run
    (sym c.in_default.is ∙ c.next_event.ensures.event) c.loop-event.invariant.partly

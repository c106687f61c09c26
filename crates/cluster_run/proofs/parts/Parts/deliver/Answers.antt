use Rattle.std.proofs.Common.{ap, arith, length, sym, ◌∙◌}
use Rattle.cluster_run.specs.Clusters.{world_of}
use Rattle.cluster_run.proofs.Happening.{deliver_nothing}
use Rattle.cluster_run.proofs.Kept.{given_ready, sent_flag, step_comes}
use Rattle.cluster_run.proofs.parts.Parts.deliver.Goals as goal
use Rattle.str_model.specs.declared.messages.Input.TheVariants.{Deliver}
use Rattle.str_model.specs.Runs.{World}
use Rattle.str_scene.specs.declared.names.Event.TheVariants.{Deliver as DeliverEvent}

pub enter_idle-requires : goal.enter_idle-requires
enter_idle-requires c = c.requires.placed

pub returns-in_default-clause-ok : goal.returns-in_default-clause-ok
returns-in_default-clause-ok c =
    rw (deliver_nothing c.args.self.now.scene (world_of c.args.self.now) c.args.index (sym c.in_default.is ∙ c.message.ensures)) c.enter_idle.ensures.ok

pub give-requires : goal.give-requires
give-requires c =
    let s = sent_flag c.args.self.now c.args.index c.in-Some.message c.requires c.in-Some.ensures in
    let e = ap (λ (w : World). length w.given) c.make_room.ensures.same.world in
    omega (arith, s.0, s.1, e)

pub step-requires-clause-placed : goal.step-requires-clause-placed
step-requires-clause-placed c = (given_ready c.args.self.now c.make_room.new.self c.give.new.self c.args.index c.in-Some.message c.requires c.make_room.ensures.same c.give.ensures.flags c.in-Some.ensures).placed

pub step-requires-clause-even : goal.step-requires-clause-even
step-requires-clause-even c = (given_ready c.args.self.now c.make_room.new.self c.give.new.self c.args.index c.in-Some.message c.requires c.make_room.ensures.same c.give.ensures.flags c.in-Some.ensures).even

pub step-requires-clause-few : goal.step-requires-clause-few
step-requires-clause-few c =
    let few = (given_ready c.args.self.now c.make_room.new.self c.give.new.self c.args.index c.in-Some.message c.requires c.make_room.ensures.same c.give.ensures.flags c.in-Some.ensures).few in
    omega (arith, few)

pub returns-clause-ok : goal.returns-clause-ok
returns-clause-ok c =
    let old = c.args.self.now in
    let m = c.in-Some.message in
    let r = given_ready old c.make_room.new.self c.give.new.self c.args.index m c.requires c.make_room.ensures.same c.give.ensures.flags c.in-Some.ensures in
    step_comes old (record c.make_room.new.self { given = c.give.new.self }) c.step.new.self (DeliverEvent c.args.index) m.receiver (Deliver m) c.make_room.ensures.same.scene_ r c.step.ensures.comes

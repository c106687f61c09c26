use Rattle.std.proofs.Common.{arith, not, subst, sym, ◌∙◌}
use Rattle.cluster_run.specs.Clusters.{Entered, world_of}
use Rattle.cluster_run.proofs.Happening.{client_at, client_nowhere}
use Rattle.cluster_run.proofs.Kept.{room_ready, step_comes}
use Rattle.cluster_run.proofs.parts.Parts.client.Goals as goal
use Rattle.str_model.specs.declared.messages.Input.TheVariants.{Client}
use Rattle.str_model.specs.Runs.{World}
use Rattle.str_scene.specs.declared.names.Event.TheVariants.{Client as ClientEvent}

pub enter_idle-requires : goal.enter_idle-requires
enter_idle-requires c = c.requires.placed

pub returns-in_default-clause-ok : goal.returns-in_default-clause-ok
returns-in_default-clause-ok c =
    rw (client_nowhere c.args.self.now.scene (world_of c.args.self.now) c.args.session c.args.reading (sym c.in_default.is ∙ c.node_of.ensures)) c.enter_idle.ensures.ok

pub step-requires-clause-placed : goal.step-requires-clause-placed
step-requires-clause-placed c =
    let old = c.args.self.now in
    (room_ready old c.make_room.new.self (ClientEvent c.args.session c.args.reading) c.in-Some.node (Client c.args.session c.args.reading) c.requires c.make_room.ensures.same (client_at old.scene (world_of old) c.args.session c.args.reading c.in-Some.node c.in-Some.ensures)).placed

pub step-requires-clause-even : goal.step-requires-clause-even
step-requires-clause-even c =
    let old = c.args.self.now in
    (room_ready old c.make_room.new.self (ClientEvent c.args.session c.args.reading) c.in-Some.node (Client c.args.session c.args.reading) c.requires c.make_room.ensures.same (client_at old.scene (world_of old) c.args.session c.args.reading c.in-Some.node c.in-Some.ensures)).even

pub step-requires-clause-few : goal.step-requires-clause-few
step-requires-clause-few c =
    let old = c.args.self.now in
    let few = (room_ready old c.make_room.new.self (ClientEvent c.args.session c.args.reading) c.in-Some.node (Client c.args.session c.args.reading) c.requires c.make_room.ensures.same (client_at old.scene (world_of old) c.args.session c.args.reading c.in-Some.node c.in-Some.ensures)).few in
    omega (arith, few)

pub returns-clause-ok : goal.returns-clause-ok
returns-clause-ok c =
    let old = c.args.self.now in
    let r = room_ready old c.make_room.new.self (ClientEvent c.args.session c.args.reading) c.in-Some.node (Client c.args.session c.args.reading) c.requires c.make_room.ensures.same (client_at old.scene (world_of old) c.args.session c.args.reading c.in-Some.node c.in-Some.ensures) in
    step_comes old c.make_room.new.self c.step.new.self (ClientEvent c.args.session c.args.reading) c.in-Some.node (Client c.args.session c.args.reading) c.make_room.ensures.same.scene_ r c.step.ensures.comes

pub returns-clause-idle : goal.returns-clause-idle
returns-clause-idle c = subst (λ (w : World). Entered (ClientEvent c.args.session c.args.reading) (not c.step.result) w (world_of c.step.new.self)) c.make_room.ensures.same.world c.step.ensures.idle

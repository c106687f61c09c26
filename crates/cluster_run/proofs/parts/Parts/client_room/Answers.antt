use Rattle.std.proofs.Common.{arith, length, refl, sym, ap, ◌+◌, ◌∙◌, ◌≤◌}
use Rattle.std.proofs.lemmas.Result.{IfOk-weaker}
use Rattle.cluster_run.proofs.Happening.{client_at, client_nowhere}
use Rattle.cluster_run.proofs.parts.Parts.client_room.Goals as goal
use Rattle.cluster_run.proofs.RoomFor.{sends_at_most}
use Rattle.cluster_run.specs.Clusters.{HasRoom, world_of}
use Rattle.str_model.specs.declared.messages.Input.TheVariants.{Client}
use Rattle.str_model.specs.Runs.{World, happens}
use Rattle.str_scene.specs.declared.names.Event.TheVariants.{Client as ClientEvent}
use Rattle.str_scene.specs.Scenes.{nth}

pub returns-in_default-clause-room : goal.returns-in_default-clause-room
returns-in_default-clause-room c =
    let p = c.args.self.now in
    let e = ap (λ (w : World). length w.sent) (client_nowhere p.scene (world_of p) c.args.session c.args.reading (sym c.in_default.is ∙ c.node_of.ensures)) in omega (arith, e)

pub returns-clause-room : goal.returns-clause-room
returns-clause-room c =
    let p = c.args.self.now in
    let e = ap (λ (w : World). length w.sent) (client_at p.scene (world_of p) c.args.session c.args.reading c.in-Some.node c.in-Some.ensures) in
    IfOk-weaker c.ready_at.result (λ n. HasRoom n (Client c.args.session c.args.reading) (nth c.ready_at.new.nodes.items c.in-Some.node.0))
    (λ n. length (happens p.scene (world_of p) (ClientEvent c.args.session c.args.reading)).sent ≤ length p.out.messages + n)
    (λ n r. (let s = sends_at_most p.scene (ClientEvent c.args.session c.args.reading) c.in-Some.node (Client c.args.session c.args.reading) (world_of p) c.ready_at.new.nodes.items n
    (c.ready_at.ensures.nodes.placed p.scene c.requires) (sym c.ready_at.ensures.nodes.views) r in omega (arith, e, s))) c.ready_at.ensures.need

pub returns-clause-same : goal.returns-clause-same
returns-clause-same c =
    record {
      scene_ = refl;
      placed = c.ready_at.ensures.nodes.placed;
      world = λ j. record (world_of c.args.self.now) { nodes = c.ready_at.ensures.nodes.views j; sent = c.ready_at.ensures.lists.messages j; answers = c.ready_at.ensures.lists.answers j };
    }

use Rattle.std.proofs.Common.{arith, length, refl, sym, ap, ◌+◌, ◌∙◌, ◌≤◌}
use Rattle.std.proofs.lemmas.Result.{IfOk-weaker}
use Rattle.cluster_run.proofs.Happening.{deliver_nothing, deliver_to}
use Rattle.cluster_run.proofs.parts.Parts.letter_room.Goals as goal
use Rattle.cluster_run.proofs.RoomFor.{sends_at_most}
use Rattle.cluster_run.specs.Clusters.{HasRoom, world_of}
use Rattle.str_model.specs.declared.messages.Input.TheVariants.{Deliver}
use Rattle.str_model.specs.Runs.{World, give, happens}
use Rattle.str_scene.specs.declared.names.Event.TheVariants.{Deliver as DeliverEvent}
use Rattle.str_scene.specs.Scenes.{nth}

pub returns-in_default-clause-room : goal.returns-in_default-clause-room
returns-in_default-clause-room c =
    let p = c.args.self.now in
    let e = ap (λ (w : World). length w.sent) (deliver_nothing p.scene (world_of p) c.args.index (sym c.in_default.is ∙ c.message.ensures)) in omega (arith, e)

pub returns-clause-room : goal.returns-clause-room
returns-clause-room c =
    let p = c.args.self.now in
    let m = c.in-Some.message in
    let e = ap (λ (w : World). length w.sent) (deliver_to p.scene (world_of p) c.args.index m c.in-Some.ensures) in
    IfOk-weaker c.ready_at.result (λ n. HasRoom n (Deliver m) (nth c.ready_at.new.nodes.items m.receiver.0))
    (λ n. length (happens p.scene (world_of p) (DeliverEvent c.args.index)).sent ≤ length p.out.messages + n)
    (λ n r. (let s = sends_at_most p.scene (DeliverEvent c.args.index) m.receiver (Deliver m) (give c.args.index (world_of p)) c.ready_at.new.nodes.items n
    (c.ready_at.ensures.nodes.placed p.scene c.requires) (sym c.ready_at.ensures.nodes.views) r in omega (arith, e, s))) c.ready_at.ensures.need

pub returns-clause-same : goal.returns-clause-same
returns-clause-same c =
    record {
      scene_ = refl;
      placed = c.ready_at.ensures.nodes.placed;
      world = λ j. record (world_of c.args.self.now) { nodes = c.ready_at.ensures.nodes.views j; sent = c.ready_at.ensures.lists.messages j; answers = c.ready_at.ensures.lists.answers j };
    }

use Rattle.std.proofs.Common.{arith, refl}
use Rattle.std.proofs.lemmas.Result.{on_ok_weaker}
use Rattle.cluster_run.proofs.Kept.{more_room}
use Rattle.cluster_run.proofs.parts.Parts.make_room.Goals as goal
use Rattle.str_scene.specs.Scenes.{nth}

pub returns-clause-room : goal.returns-clause-room
returns-clause-room c =
    on_ok_weaker c.reserve-2.result
    (λ l. record {
      journal = omega (arith, c.in_ok-reserve.ensures.ok);
      node_ = c.in_ok-room.ensures.room;
      out = c.in_ok-room.ensures.space;
      given = more_room c.in_ok-room.room c.reserve-2.new.self.spare c.args.input.now (nth c.ready_at.new.nodes.items c.args.node.0) l c.in_ok-room.ensures.need;
    })
    c.reserve-2.ensures.space

pub returns-clause-same : goal.returns-clause-same
returns-clause-same c =
    record {
      scene_ = refl;
      placed = c.ready_at.ensures.nodes.placed;
      world = λ j. record {
        nodes = c.ready_at.ensures.nodes.views j;
        sent = c.ready_at.ensures.lists.messages j;
        given = c.reserve-2.ensures.flags j;
        journal = c.reserve.ensures.items j;
        answers = c.ready_at.ensures.lists.answers j;
      };
    }

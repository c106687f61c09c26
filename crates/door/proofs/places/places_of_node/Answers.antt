use Rattle.door.proofs.NodePlaces.{session_pushed}
use Rattle.std.proofs.Common.{List, ap, arith, length, slice_index_or, ◌∙◌}
use Rattle.str_scene.specs.Scenes.{Session}
use Rattle.door.proofs.places.places_of_node.Goals as goal

pub loop-i-preserved : goal.loop-i-preserved
loop-i-preserved c =
    session_pushed c.args.node c.args.scene.now.sessions c.loop-i.i _ c.index-sessions-i.result c.loop-i.places.items c.push_places.new.places.items
    (let n = ap length c.sessions-i-end.ensures.value in omega (arith, n))
    (c.index-sessions-i.is ∙ ap (λ (ss : List Session). slice_index_or ss c.loop-i.i c.index-sessions-i.result) c.sessions.ensures.value)
    (omega arith)
    c.loop-i.invariant c.in_ok-push_places.ensures

use Rattle.door.proofs.NodePlaces.{place_pushed}
use Rattle.door.proofs.places.push_places.Goals as goal

pub loop-number-preserved : goal.loop-number-preserved
loop-number-preserved c =
    place_pushed c.args.places.now.items c.loop-number.places.items c.push.new.self.items c.args.session c.loop-number.number c.loop-number.invariant c.in_ok-push.ensures.items

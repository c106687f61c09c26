use Rattle.ring_links.proofs.Meeting.{linked_on, same_on}
use Rattle.ring_links.proofs.tests.what_the_ring_does_not_hold_waits.Goals as goal

pub settle-requires : goal.settle-requires
settle-requires g c =
    let sent = same_on c.in_ok-one.one c.ready.new.self c.send_all.new.link c.ready.ensures.stays.0 c.send_all.ensures in
    linked_on c.in_ok-one.one c.in_ok-one.two c.send_all.new.link c.takes.new.link c.in_ok-one.ensures.linked sent c.takes.ensures

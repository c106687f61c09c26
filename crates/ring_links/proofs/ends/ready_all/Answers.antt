use Rattle.std.proofs.Common.{◌<◌, ◌≤◌, length, sym, ◌∙◌, arith, length-set}
use Rattle.ring_links.proofs.Readying.{one_stays, one_has_room, all_have_room}
use Rattle.ring_links.proofs.ends.ready_all.Goals as goal

pub loop-place-preserved : goal.loop-place-preserved
loop-place-preserved c =
    let links = c.loop-place.links.items in
    let place = c.loop-place.place in
    let x = c.index_mut.result.now in
    let y = c.ready.new.self in
    let inv = c.loop-place.invariant in
    let within : place < length links = omega (arith, c.loop-place-test.true, inv.2) in (
      one_stays c.args.links.now.items links place x y within inv.0 c.index_mut.ensures.value c.ready.ensures.stays,
      one_has_room c.args.links.now.items links place x y within c.args.n inv.1 c.in_ok-ready.ensures.room,
      inv.2 ∙ sym (length-set links place y),
    )

pub returns-clause-room : goal.returns-clause-room
returns-clause-room c =
    let inv = c.loop-place.invariant in
    let all : length c.loop-place.links.items ≤ c.loop-place.place = omega (arith, c.loop-place-test.false, inv.2) in
    all_have_room c.loop-place.links.items c.loop-place.place c.args.n all inv.1

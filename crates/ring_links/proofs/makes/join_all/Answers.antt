use Rattle.std.proofs.Common.{◌<◌, length, ap, subst, ◌∙◌, arith}
use Rattle.ring_links.specs.Ends.{Ends, Joins}
use Rattle.ring_links.proofs.Making.{one_joined}
use Rattle.ring_links.proofs.makes.join_all.Goals as goal

pub loop-place-preserved : goal.loop-place-preserved
loop-place-preserved c =
    let inv = c.loop-place.invariant in
    let later = c.loop-place.later in
    let x = c.join.new.self in
    let is = c.index_mut.ensures.value in
    let within : c.loop-place.place < length c.args.before.now.items = omega (arith, c.loop-place-test.true, inv.2) in
    let node = c.join.ensures.nodes.0 ∙ ap (λ (z : Ends). z.node) is in
    let joins = subst (λ (z : Ends). Joins z x later c.join.new.later) is c.in_ok-join.ensures.joined in (
      one_joined c.loop-place.place c.args.before.now.items c.loop-place.before.items later c.join.new.later x c.index_mut.result.now inv.0 within node joins,
      c.join.ensures.nodes.1 ∙ inv.1,
      inv.2,
    )

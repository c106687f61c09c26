use Rattle.std.proofs.Common.{None, arith, slice_get, sym, ◌≡◌, ◌<◌}
use Rattle.std.proofs.lemmas.Option.{slice_get_within}
use Rattle.str_base.proofs.Lists.{slice_get_none}
use Rattle.str_base.proofs.Members.{at_in}
use Rattle.node_core.proofs.work.Work.waiting.Goals as goal

pub returns-clause-small : goal.returns-clause-small
returns-clause-small c =
    let ws = c.self.inside.held.parked.waiters in
    let e : slice_get ws c.loop-waiter.n ≡ None = sym c.in_default.ensures in
    let far = slice_get_none ws c.loop-waiter.n e in
    rw (← c.self.view_is)
    (λ w j.
    let p = at_in ws w j in
    let t = slice_get_within ws p.0 w p.1 in
    let below : p.0 < c.loop-waiter.n = omega (arith, t, far) in c.loop-waiter.invariant.small p.0 w below p.1)

use Rattle.std.proofs.Common.{List, ap, arith, length, ℕ}
use Rattle.node_core.proofs.Whole.Readying.{need_within}
use Rattle.node_core.proofs.nodes.Node.ready.Goals as goal

pub returns-clause-need : goal.returns-clause-need
returns-clause-need c =
    let w = c.self.inside.work in
    let n = need_within w.here w.doing.view c.self.invariant.0 c.args.input.now c.is_small_input.ensures.small c.waiting.ensures.small in
    let k = ap (λ (xs : List ℕ). length xs) c.undecided.ensures in
    let l = c.len.ensures.len in
    let m = c.waiting.ensures.count in
    let e = c.in-Some.ensures in
    rw (← c.self.view_is) (omega (arith, n, k, l, m, e))

use Rattle.std.proofs.Common.{ap, arith, length, List, ℕ, ◌∙◌}
use Rattle.node_core.proofs.Whole.Readying.{held_count, held_few}
use Rattle.node_core.proofs.nodes.Node.held.Goals as goal

pub overflow_cast-result : goal.overflow_cast-result
overflow_cast-result c =
    let n = held_few c.self.inside.work.here c.self.inside.work.doing.view c.self.invariant.0 in
    omega (arith, ap (λ (xs : List ℕ). length xs) c.undecided.ensures, c.len.ensures.len)

pub returns : goal.returns
returns c = rw (← c.self.view_is) (c.len.ensures.len ∙ (ap (λ (xs : List ℕ). length xs) c.undecided.ensures ∙ held_count c.self.inside.work.doing.view.own))

use Rattle.node_core.proofs.nodes.Node.beside.Goals as goal

pub invariant_of-result : goal.invariant_of-result
invariant_of-result c = let w = c.in_ok-work.ensures in (w.node, w.fresh, w.out.0, w.out.1)

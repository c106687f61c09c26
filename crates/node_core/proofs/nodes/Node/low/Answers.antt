use Rattle.node_core.proofs.nodes.Node.low.Goals as goal

pub returns : goal.returns
returns c = rw (← c.self.view_is) c.low.ensures

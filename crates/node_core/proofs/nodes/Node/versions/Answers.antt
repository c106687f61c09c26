use Rattle.node_core.proofs.nodes.Node.versions.Goals as goal

pub versions-requires : goal.versions-requires
versions-requires c = let n = c.self.invariant.0 in record { limits = n.limits; exists = n.exists; moment = n.facts.moment }

pub returns : goal.returns
returns c = rw (← c.self.view_is) c.versions.ensures

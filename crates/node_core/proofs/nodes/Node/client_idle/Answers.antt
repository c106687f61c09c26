use Rattle.std.proofs.Common.{ap, not, sym, ◌∙◌}
use Rattle.node_core.proofs.Whole.Readying.{idle_steps}
use Rattle.node_core.proofs.nodes.Node.client_idle.Goals as goal

pub client_idle-requires : goal.client_idle-requires
client_idle-requires c = let n = c.self.invariant.0 in record { limits = n.limits; exists = n.exists; moment = n.facts.moment }

pub returns : goal.returns
returns c t = rw (← c.self.view_is) (c.client_idle.ensures t ∙ ap not (sym (idle_steps c.self.inside.work c.self.invariant.1 c.args.session t)))

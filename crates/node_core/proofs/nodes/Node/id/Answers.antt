use Rattle.node_core.proofs.Whole.Readying.{times_within}
use Rattle.node_core.proofs.nodes.Node.id.Goals as goal

pub returns-clause-facts : goal.returns-clause-facts
returns-clause-facts c = rw (← c.self.view_is) c.self.invariant.0.facts

pub returns-clause-times : goal.returns-clause-times
returns-clause-times c = rw (← c.self.view_is) (times_within c.self.inside.work.here c.self.inside.work.doing.view c.self.invariant.0)

pub returns-clause-apart : goal.returns-clause-apart
returns-clause-apart c = rw (← c.self.view_is) c.self.invariant.0.ordered

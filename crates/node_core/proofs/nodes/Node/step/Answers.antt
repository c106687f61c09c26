use Rattle.node_core.proofs.Whole.NodeSteps.{begun_fits, begun_fresh, begun_node, ended_facts, ended_node, step_ends}
use Rattle.node_core.proofs.nodes.Node.step.Goals as goal

pub step-moves-requires-clause-node : goal.step-moves-requires-clause-node
step-moves-requires-clause-node c =
    let e = c.begin_step.ensures in
    begun_node c.self.inside.work c.begin_step.new.self c.self.invariant.0 c.self.invariant.1 c.args.out.now
    (record { here = e.here; doing = e.doing; room = e.room; space = e.space; earlier = e.earlier.0; answered = e.earlier.1 })

pub step-moves-requires-clause-fresh : goal.step-moves-requires-clause-fresh
step-moves-requires-clause-fresh c =
    let e = c.begin_step.ensures in
    begun_fresh c.self.inside.work c.begin_step.new.self c.self.invariant.0 c.self.invariant.1 c.args.out.now
    (record { here = e.here; doing = e.doing; room = e.room; space = e.space; earlier = e.earlier.0; answered = e.earlier.1 })

pub step-moves-requires-clause-fits : goal.step-moves-requires-clause-fits
step-moves-requires-clause-fits c =
    let e = c.begin_step.ensures in
    begun_fits c.self.inside.work c.begin_step.new.self c.self.invariant.0 c.self.invariant.1 c.args.out.now
    (record { here = e.here; doing = e.doing; room = e.room; space = e.space; earlier = e.earlier.0; answered = e.earlier.1 }) c.args.input.now (rw (← c.self.view_is) at c.requires.room) (rw (← c.self.view_is) at c.requires.space)

pub end_step-requires-clause-facts : goal.end_step-requires-clause-facts
end_step-requires-clause-facts c =
    let e = c.begin_step.ensures in
    ended_facts c.self.inside.work c.begin_step.new.self c.self.invariant.0 c.self.invariant.1 c.args.out.now
    (record { here = e.here; doing = e.doing; room = e.room; space = e.space; earlier = e.earlier.0; answered = e.earlier.1 }) c.args.input.now c.step-moves.result c.step-moves.new.self c.step-moves.ensures

pub invariant_of-self : goal.invariant_of-self
invariant_of-self c =
    let e = c.begin_step.ensures in
    let g = c.end_step.ensures in
    let n = ended_node c.self.inside.work c.begin_step.new.self c.self.invariant.0 c.self.invariant.1 c.args.out.now
    (record { here = e.here; doing = e.doing; room = e.room; space = e.space; earlier = e.earlier.0; answered = e.earlier.1 }) c.args.input.now c.step-moves.result c.step-moves.new.self c.step-moves.ensures
    c.end_step.new.self c.end_step.new.out (record { ordered = g.ordered; here = g.here; view = g.view; room = g.room; messages = g.messages; answers = g.answers; space = g.space }) in
    (n, g.fresh, g.out.0, g.out.1)

pub returns : goal.returns
returns c =
    let e = c.begin_step.ensures in
    let g = c.end_step.ensures in
    rw (← c.self.view_is) (step_ends c.self.inside.work c.begin_step.new.self c.self.invariant.0 c.self.invariant.1 c.args.out.now
    (record { here = e.here; doing = e.doing; room = e.room; space = e.space; earlier = e.earlier.0; answered = e.earlier.1 }) c.args.input.now c.step-moves.result c.step-moves.new.self c.step-moves.ensures
    c.end_step.new.self c.end_step.new.out (record { ordered = g.ordered; here = g.here; view = g.view; room = g.room; messages = g.messages; answers = g.answers; space = g.space }))

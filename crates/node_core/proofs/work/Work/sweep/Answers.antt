use Rattle.std.proofs.Common.{arith}
use Rattle.node_core.proofs.Waiting.SweepSteps.{sweep_begin, sweep_done, sweep_fits, sweep_next, sweep_there}
use Rattle.node_core.proofs.work.Work.sweep.Goals as goal

pub loop-n-init : goal.loop-n-init
loop-n-init c = sweep_begin c.args.self.now c.waiting-waiting.result c.requires.facts c.waiting-waiting.ensures.count

pub try_waiter-j-requires-clause-facts : goal.try_waiter-j-requires-clause-facts
try_waiter-j-requires-clause-facts c = c.loop-n.invariant.facts

pub try_waiter-j-requires-clause-there : goal.try_waiter-j-requires-clause-there
try_waiter-j-requires-clause-there c = sweep_there c.args.self.now c.waiting-waiting.result c.loop-n.n c.loop-n.j c.loop-n.self c.loop-n.invariant c.loop-n-test.true

pub try_waiter-j-requires-clause-limit : goal.try_waiter-j-requires-clause-limit
try_waiter-j-requires-clause-limit c = let w = c.loop-n.invariant.within in omega (arith, w)

pub try_waiter-j-requires-clause-fits : goal.try_waiter-j-requires-clause-fits
try_waiter-j-requires-clause-fits c = sweep_fits c.args.self.now c.waiting-waiting.result c.loop-n.n c.loop-n.j c.loop-n.self c.loop-n.invariant c.requires.fits

pub loop-n-preserved : goal.loop-n-preserved
loop-n-preserved c = sweep_next c.args.self.now c.waiting-waiting.result c.loop-n.n c.loop-n.j c.loop-n.self c.loop-n.invariant c.try_waiter-j.result c.try_waiter-j.new.self c.loop-n-test.true c.try_waiter-j.ensures

pub returns : goal.returns
returns c = sweep_done c.args.self.now c.waiting-waiting.result c.loop-n.n c.loop-n.j c.loop-n.self c.loop-n.invariant (omega arith)

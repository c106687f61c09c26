use Rattle.std.proofs.Common.{◌∙◌, arith, refl}
use Rattle.race_round.proofs.Takings.{takes_first, takes_next, takes_nothing, takes_stopped}
use Rattle.race_round.specs.Nodes.{seat_of}
use Rattle.race_round.proofs.takes.take_some.Goals as goal

pub loop-step-init : goal.loop-step-init
loop-step-init g c = record { took = takes_first c.args.sender (seat_of c.args.n.now) c.requires.seat; clock = refl }

pub returns-in-Nothing-clause-took : goal.returns-in-Nothing-clause-took
returns-in-Nothing-clause-took g c w = takes_nothing _ _ _ _ _ (omega arith) c.loop-step.invariant.took c.in-Nothing.ensures.took

pub returns-in-Stopped-clause-broken : goal.returns-in-Stopped-clause-broken
returns-in-Stopped-clause-broken g c w = takes_stopped _ _ _ _ _ c.loop-step-test.true c.loop-step.invariant.took c.in-Stopped.ensures.took

pub loop-step-preserved : goal.loop-step-preserved
loop-step-preserved g c = record { took = takes_next _ _ _ _ _ c.loop-step.invariant.took c.in-Taken.ensures.took; clock = c.take_one.ensures.clock ∙ c.loop-step.invariant.clock }

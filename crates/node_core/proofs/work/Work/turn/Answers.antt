use Rattle.node_core.proofs.Rules.ScriptSteps.{own_there}
use Rattle.node_core.proofs.PassTurns.TurnSteps.{first_facts, first_fits, first_opens, first_there, half_facts, half_fits, half_there, turn_done, turn_resolves}
use Rattle.node_core.proofs.work.Work.turn.Goals as goal

pub resolve-requires-clause-fits : goal.resolve-requires-clause-fits
resolve-requires-clause-fits c = turn_resolves c.args.self.now c.args.i c.requires.facts c.requires.fits

pub again-requires-clause-facts : goal.again-requires-clause-facts
again-requires-clause-facts c = first_facts c.args.self.now c.args.i c.requires.facts c.resolve.new.self c.resolve.ensures

pub again-requires-clause-there : goal.again-requires-clause-there
again-requires-clause-there c = first_there c.args.self.now c.args.i c.requires.facts c.resolve.new.self c.resolve.ensures (own_there _ c.args.i c.args.self.now c.requires.own)

pub again-requires-clause-open_ : goal.again-requires-clause-open_
again-requires-clause-open_ c = first_opens c.args.self.now c.args.i c.requires.facts c.resolve.new.self c.resolve.ensures c.requires.open_

pub again-requires-clause-fits : goal.again-requires-clause-fits
again-requires-clause-fits c = first_fits c.args.self.now c.args.i c.requires.facts c.resolve.new.self c.resolve.ensures c.requires.fits

pub close-requires-clause-facts : goal.close-requires-clause-facts
close-requires-clause-facts c = half_facts c.args.self.now c.args.i c.requires.facts c.resolve.new.self c.resolve.ensures c.again.new.self c.again.ensures

pub close-requires-clause-there : goal.close-requires-clause-there
close-requires-clause-there c =
    half_there c.args.self.now c.args.i c.requires.facts c.resolve.new.self c.resolve.ensures c.again.new.self c.again.ensures (own_there _ c.args.i c.args.self.now c.requires.own)

pub close-requires-clause-fits : goal.close-requires-clause-fits
close-requires-clause-fits c = half_fits c.args.self.now c.args.i c.requires.facts c.resolve.new.self c.resolve.ensures c.again.new.self c.again.ensures c.requires.fits

pub returns : goal.returns
returns c = turn_done c.args.self.now c.args.i c.requires.facts c.resolve.new.self c.resolve.ensures c.again.new.self c.again.ensures c.close.new.self c.close.ensures

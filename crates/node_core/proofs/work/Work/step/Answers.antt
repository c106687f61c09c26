use Rattle.node_core.proofs.Whole.WholeStep.{passed_facts, passed_fits, rule_fits, ruled_facts, ruled_fits, step_done, step_facts, step_idle}
use Rattle.node_core.proofs.work.Work.step.Goals as goal

pub rule-requires-clause-facts : goal.rule-requires-clause-facts
rule-requires-clause-facts c = step_facts c.args.self.now c.args.input.now c.requires.node c.requires.fresh

pub rule-requires-clause-open_ : goal.rule-requires-clause-open_
rule-requires-clause-open_ c = c.requires.node.facts.open_

pub rule-requires-clause-fits : goal.rule-requires-clause-fits
rule-requires-clause-fits c = rule_fits c.args.self.now c.args.input.now c.requires.node c.requires.fresh c.requires.fits

pub returns-then-not-rule : goal.returns-then-not-rule
returns-then-not-rule c =
    step_idle c.args.self.now c.args.input.now c.requires.node c.requires.fresh c.rule.result c.rule.new.self c.if-not-rule.true c.rule.ensures

pub pass-requires-clause-facts : goal.pass-requires-clause-facts
pass-requires-clause-facts c = ruled_facts c.args.self.now c.args.input.now c.requires.node c.requires.fresh c.rule.result c.rule.new.self c.if-not-rule.false c.rule.ensures

pub pass-requires-clause-fits : goal.pass-requires-clause-fits
pass-requires-clause-fits c = ruled_fits c.args.self.now c.args.input.now c.requires.node c.requires.fresh c.rule.result c.rule.new.self c.if-not-rule.false c.rule.ensures c.requires.fits

pub sweep-requires-clause-facts : goal.sweep-requires-clause-facts
sweep-requires-clause-facts c =
    passed_facts c.args.self.now c.args.input.now c.requires.node c.requires.fresh c.rule.result c.rule.new.self c.if-not-rule.false c.rule.ensures c.pass.new.self c.pass.ensures

pub sweep-requires-clause-fits : goal.sweep-requires-clause-fits
sweep-requires-clause-fits c =
    passed_fits c.args.self.now c.args.input.now c.requires.node c.requires.fresh c.rule.result c.rule.new.self c.if-not-rule.false c.rule.ensures c.pass.new.self c.pass.ensures c.requires.fits

pub returns : goal.returns
returns c =
    step_done c.args.self.now c.args.input.now c.requires.node c.requires.fresh c.rule.result c.rule.new.self c.if-not-rule.false c.rule.ensures c.pass.new.self c.pass.ensures c.sweep.new.self
    c.sweep.ensures

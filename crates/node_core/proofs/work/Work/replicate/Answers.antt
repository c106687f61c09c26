use Rattle.str_model.specs.Acts.{taken}
use Rattle.replica_apply.specs.Slaves.{evict_all}
use Rattle.node_core.proofs.Rules.ArrivalSteps.{take_place, taken_grows}
use Rattle.node_core.proofs.Whole.Growing.{fits_before}
use Rattle.node_core.proofs.Whole.Moves.{fits_rule, idle_rule, rule_done, rule_fits}
use Rattle.node_core.proofs.work.Work.replicate.Goals as goal

pub returns-in-Ignore : goal.returns-in-Ignore
returns-in-Ignore c = idle_rule c.args.self.now _ c.in-Ignore.ensures.rule

pub evict_all-requires-clause-evicted : goal.evict_all-requires-clause-evicted
evict_all-requires-clause-evicted c = c.in-Take.ensures.evicted

pub evict_all-requires-clause-fits : goal.evict_all-requires-clause-fits
evict_all-requires-clause-fits c =
    let a = c.in-Take in
    fits_before c.args.self.now _ _ (taken_grows c.args.self.now c.requires.facts c.args.a.now c.requires.named a.evict a.ts.0 a.ensures.rule) (fits_rule c.args.self.now _ _ a.ensures.rule c.requires.fits)

pub take-requires-clause-can : goal.take-requires-clause-can
take-requires-clause-can c =
    let a = c.in-Take in
    take_place c.args.self.now c.requires.facts c.args.a.now c.requires.named a.evict a.ts.0 a.ensures.rule c.evict_all.new.self c.evict_all.ensures

pub take-requires-clause-fits : goal.take-requires-clause-fits
take-requires-clause-fits c =
    let a = c.in-Take in
    rule_fits (λ h d. taken h c.args.a.now a.ts.0 d) c.args.self.now c.evict_all.new.self (evict_all c.args.self.now.here c.args.a.now a.evict c.args.self.now.doing) _ c.evict_all.ensures a.ensures.rule c.requires.fits

pub returns-in-Take : goal.returns-in-Take
returns-in-Take c =
    let a = c.in-Take in
    rule_done (λ h d. taken h c.args.a.now a.ts.0 d) c.args.self.now c.evict_all.new.self c.take.new.self (evict_all c.args.self.now.here c.args.a.now a.evict c.args.self.now.doing) _ c.evict_all.ensures a.ensures.rule c.take.ensures

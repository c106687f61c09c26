use Rattle.std.proofs.Common.{ap, sym, ◌∙◌}
use Rattle.str_model.specs.Views.{is_decided}
use Rattle.node_core.proofs.Whole.Moves.{idle_rule}
use Rattle.node_core.proofs.Parts.PhaseWords.{is_global}
use Rattle.node_core.proofs.Rules.ReturnRules.{refuse_idle, refuse_none}
use Rattle.node_core.proofs.Rules.ReturnSteps.{named_own, refuse_fits, refuse_other, refuse_ruled, refuse_unasked}
use Rattle.node_core.proofs.work.Work.take_refusal.Goals as goal

pub returns-in_default : goal.returns-in_default
returns-in_default c = idle_rule c.args.self.now _ (refuse_none c.args.self.now.here c.args.tx c.args.self.now.doing c.in_default.ensures c.args.sender c.args.part c.args.by c.args.key)

pub returns-in_default-phase : goal.returns-in_default-phase
returns-in_default-phase c =
    let x = named_own c.args.self.now c.args.tx c.in-Some.i c.in-Some.ensures in
    let n = c.in_default-phase.not-Global in
    idle_rule c.args.self.now _ (refuse_idle c.args.self.now.here c.args.tx c.args.self.now.doing x.0 x.2 c.args.sender c.args.part c.args.by c.args.key (λ e. let t = is_global c.phase.result e.0 (c.phase.ensures x.0 x.1 ∙ e.1) in n t.0 t.1))

pub returns-then-not-has_asked : goal.returns-then-not-has_asked
returns-then-not-has_asked c =
    let x = named_own c.args.self.now c.args.tx c.in-Some.i c.in-Some.ensures in
    idle_rule c.args.self.now _ (refuse_unasked c.args.self.now c.args.tx c.in-Some.i c.in-Some.ensures x.0 x.1 c.args.sender c.args.part c.args.by c.args.key c.in-Global.lc.0 (c.in-Global.ensures x.0 x.1) (sym (c.has_asked.ensures x.0 x.1) ∙ c.if-not-has_asked.true))

pub returns-then-not-is_master : goal.returns-then-not-is_master
returns-then-not-is_master c =
    let x = named_own c.args.self.now c.args.tx c.in-Some.i c.in-Some.ensures in
    idle_rule c.args.self.now _ (refuse_other c.args.self.now c.args.tx c.in-Some.i c.in-Some.ensures x.0 x.1 c.args.sender c.args.part c.args.by c.args.key c.in-Global.lc.0 (c.in-Global.ensures x.0 x.1) (sym (c.has_asked.ensures x.0 x.1) ∙ c.if-not-has_asked.false)
    (sym c.is_master.ensures ∙ c.if-not-is_master.true))

pub abort-requires-clause-own : goal.abort-requires-clause-own
abort-requires-clause-own c =
    let x = named_own c.args.self.now c.args.tx c.in-Some.i c.in-Some.ensures in
    (x.0, x.1, ap is_decided (sym (c.in-Global.ensures x.0 x.1)))

pub abort-requires-clause-fits : goal.abort-requires-clause-fits
abort-requires-clause-fits c =
    let x = named_own c.args.self.now c.args.tx c.in-Some.i c.in-Some.ensures in
    refuse_fits c.args.self.now c.args.tx c.in-Some.i c.in-Some.ensures x.0 x.1 c.args.sender c.args.part c.args.by c.args.key c.in-Global.lc.0 (c.in-Global.ensures x.0 x.1) (sym (c.has_asked.ensures x.0 x.1) ∙ c.if-not-has_asked.false)
    (sym c.is_master.ensures ∙ c.if-not-is_master.false) c.requires.fits

pub returns : goal.returns
returns c =
    let x = named_own c.args.self.now c.args.tx c.in-Some.i c.in-Some.ensures in
    refuse_ruled c.args.self.now c.args.tx c.in-Some.i c.in-Some.ensures x.0 x.1 c.args.sender c.args.part c.args.by c.args.key c.in-Global.lc.0 (c.in-Global.ensures x.0 x.1) (sym (c.has_asked.ensures x.0 x.1) ∙ c.if-not-has_asked.false)
    (sym c.is_master.ensures ∙ c.if-not-is_master.false) c.abort.new.self c.abort.ensures

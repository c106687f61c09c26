use Rattle.std.proofs.Common.{ap, sym, ◌∙◌}
use Rattle.str_model.specs.Views.{is_decided}
use Rattle.node_core.proofs.Whole.Moves.{idle_rule}
use Rattle.node_core.proofs.Parts.PhaseWords.{is_global}
use Rattle.node_core.proofs.Rules.ReturnRules.{ack_idle, ack_none}
use Rattle.node_core.proofs.Rules.ReturnSteps.{ack_ruled, named_own}
use Rattle.node_core.proofs.work.Work.take_ack.Goals as goal

pub returns-in_default : goal.returns-in_default
returns-in_default c = idle_rule c.args.self.now _ (ack_none c.args.self.now.here c.args.tx c.args.self.now.doing c.in_default.ensures c.args.sender c.args.part c.args.ts.0)

pub returns-in_default-phase : goal.returns-in_default-phase
returns-in_default-phase c =
    let x = named_own c.args.self.now c.args.tx c.in-Some.i c.in-Some.ensures in
    let n = c.in_default-phase.not-Global in
    idle_rule c.args.self.now _ (ack_idle c.args.self.now.here c.args.tx c.args.self.now.doing x.0 x.2 c.args.sender c.args.part c.args.ts.0 (λ e. let t = is_global c.phase.result e.0 (c.phase.ensures x.0 x.1 ∙ e.1) in n t.0 t.1))

pub keep_ack-requires : goal.keep_ack-requires
keep_ack-requires c =
    let x = named_own c.args.self.now c.args.tx c.in-Some.i c.in-Some.ensures in
    (x.0, x.1, ap is_decided (sym (c.in-Global.ensures x.0 x.1)))

pub returns : goal.returns
returns c =
    let x = named_own c.args.self.now c.args.tx c.in-Some.i c.in-Some.ensures in
    ack_ruled c.args.self.now c.args.tx c.in-Some.i c.in-Some.ensures x.0 x.1 c.args.sender c.args.part c.args.ts.0 c.in-Global.lc.0 (c.in-Global.ensures x.0 x.1) c.keep_ack.result c.keep_ack.new.self (c.keep_ack.ensures x.0 x.1)

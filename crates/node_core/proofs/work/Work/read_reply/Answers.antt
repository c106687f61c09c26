use Rattle.std.proofs.Common.{ap, sym, ◌∙◌}
use Rattle.std.proofs.lemmas.Bool.{not-false, not-true}
use Rattle.str_model.specs.Views.{is_decided, lc_of}
use Rattle.node_core.proofs.Whole.Moves.{idle_rule}
use Rattle.node_core.proofs.Parts.PhaseWords.{is_remote}
use Rattle.node_core.proofs.Rules.ReturnRules.{reply_idle, reply_none}
use Rattle.node_core.proofs.Rules.ReturnSteps.{named_own, reply_other, reply_ruled}
use Rattle.node_core.proofs.work.Work.read_reply.Goals as goal

pub returns-in_default : goal.returns-in_default
returns-in_default c = idle_rule c.args.self.now _ (reply_none c.args.self.now.here c.args.tx c.args.self.now.doing c.in_default.ensures c.args.key c.args.value c.args.by c.args.fc.0)

pub returns-in_default-phase : goal.returns-in_default-phase
returns-in_default-phase c =
    let x = named_own c.args.self.now c.args.tx c.in-Some.i c.in-Some.ensures in
    let n = c.in_default-phase.not-Remote in
    idle_rule c.args.self.now _ (reply_idle c.args.self.now.here c.args.tx c.args.self.now.doing x.0 x.2 c.args.key c.args.value c.args.by c.args.fc.0 (λ e. n e.0 (is_remote c.phase.result e.0 (c.phase.ensures x.0 x.1 ∙ e.1))))

pub returns-then-ne : goal.returns-then-ne
returns-then-ne c =
    let x = named_own c.args.self.now c.args.tx c.in-Some.i c.in-Some.ensures in
    idle_rule c.args.self.now _ (reply_other c.args.self.now c.args.tx c.in-Some.i c.in-Some.ensures x.0 x.1 c.args.key c.in-Remote.wanted c.args.value c.args.by c.args.fc.0 (c.in-Remote.ensures x.0 x.1)
    (not-true _ (sym c.ne.ensures ∙ c.if-ne.true)))

pub set_phase-requires-clause-old : goal.set_phase-requires-clause-old
set_phase-requires-clause-old c =
    let x = named_own c.args.self.now c.args.tx c.in-Some.i c.in-Some.ensures in
    let p = sym (c.in-Remote.ensures x.0 x.1) in
    (x.0, x.1, (ap is_decided p, ap lc_of p))

pub returns : goal.returns
returns c =
    let x = named_own c.args.self.now c.args.tx c.in-Some.i c.in-Some.ensures in
    reply_ruled c.args.self.now c.args.tx c.in-Some.i c.in-Some.ensures x.0 x.1 c.args.key c.in-Remote.wanted c.args.value c.args.by c.args.fc.0 (c.in-Remote.ensures x.0 x.1)
    (not-false _ (sym c.ne.ensures ∙ c.if-ne.false)) c.set_phase.new.self c.set_phase.ensures

use Rattle.std.proofs.Common.{ap}
use Rattle.snapshot_read.specs.Turning.{serve_of}
use Rattle.str_model.specs.Acts.{marked, replied, waits}
use Rattle.str_model.specs.declared.messages.Waiter.TheVariants.{Read}
use Rattle.str_model.specs.Turns.{Give, ServeWait}
use Rattle.str_model.proofs.ViewFacts.NodeUses.{have_marks}
use Rattle.node_core.proofs.Whole.Moves.{idle_rule, rule_done, rule_fits}
use Rattle.node_core.proofs.Rules.ReplicaSteps.{read_hosted, read_idle, read_moves}
use Rattle.node_core.proofs.work.Work.read_request.Goals as goal

pub returns-then-not-is_new_read : goal.returns-then-not-is_new_read
returns-then-not-is_new_read c = idle_rule c.args.self.now _ (read_idle c.args.self.now c.args.tx c.args.key c.args.rs.0 c.is_new_read.result c.is_new_read.ensures c.if-not-is_new_read.true)

pub serve_turn-turn-requires-clause-hosted : goal.serve_turn-turn-requires-clause-hosted
serve_turn-turn-requires-clause-hosted c = let t = c.if-not-is_new_read.false in read_hosted c.args.self.now c.args.tx c.args.key c.args.rs.0 c.is_new_read.result c.is_new_read.ensures t

pub mark-requires : goal.mark-requires
mark-requires c = have_marks c.args.self.now.here c.args.self.now.doing.view c.requires.facts.moment c.args.key c.requires.key

pub reply-requires : goal.reply-requires
reply-requires c =
    let t = c.if-not-is_new_read.false in
    let a = c.in-Give in
    rule_fits (λ h d. replied h c.args.tx c.args.key a.value a.by a.fc.0 d) c.args.self.now c.mark.new.self (marked c.args.key c.args.rs.0 c.args.self.now.doing) _ c.mark.ensures
    (read_moves c.args.self.now c.args.tx c.args.key c.args.rs.0 c.is_new_read.result c.is_new_read.ensures t (serve_of c.serve_turn-turn.result) (Give a.value a.by a.fc.0) c.serve_turn-turn.ensures (ap serve_of a.is))
    c.requires.fits

pub wait-requires : goal.wait-requires
wait-requires c =
    let t = c.if-not-is_new_read.false in
    let a = c.in-Wait in
    rule_fits (λ h d. waits (Read c.args.tx c.args.key c.args.rs) d) c.args.self.now c.mark.new.self (marked c.args.key c.args.rs.0 c.args.self.now.doing) _ c.mark.ensures
    (read_moves c.args.self.now c.args.tx c.args.key c.args.rs.0 c.is_new_read.result c.is_new_read.ensures t (serve_of c.serve_turn-turn.result) (ServeWait a.by) c.serve_turn-turn.ensures (ap serve_of a.is))
    c.requires.fits

pub returns-in-Give : goal.returns-in-Give
returns-in-Give c =
    let t = c.if-not-is_new_read.false in
    let a = c.in-Give in
    rule_done (λ h d. replied h c.args.tx c.args.key a.value a.by a.fc.0 d) c.args.self.now c.mark.new.self c.reply.new.self (marked c.args.key c.args.rs.0 c.args.self.now.doing) _ c.mark.ensures
    (read_moves c.args.self.now c.args.tx c.args.key c.args.rs.0 c.is_new_read.result c.is_new_read.ensures t (serve_of c.serve_turn-turn.result) (Give a.value a.by a.fc.0) c.serve_turn-turn.ensures (ap serve_of a.is))
    c.reply.ensures

pub returns-in-Wait : goal.returns-in-Wait
returns-in-Wait c =
    let t = c.if-not-is_new_read.false in
    let a = c.in-Wait in
    rule_done (λ h d. waits (Read c.args.tx c.args.key c.args.rs) d) c.args.self.now c.mark.new.self c.wait.new.self (marked c.args.key c.args.rs.0 c.args.self.now.doing) _ c.mark.ensures
    (read_moves c.args.self.now c.args.tx c.args.key c.args.rs.0 c.is_new_read.result c.is_new_read.ensures t (serve_of c.serve_turn-turn.result) (ServeWait a.by) c.serve_turn-turn.ensures (ap serve_of a.is))
    c.wait.ensures

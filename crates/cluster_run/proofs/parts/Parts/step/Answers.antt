use Rattle.std.proofs.Common.{ap, arith, length, refl, ◌-◌, ◌∙◌, ◌≡◌}
use Rattle.cluster_run.proofs.Kept.{answers_fit, flags_fit, step_done}
use Rattle.cluster_run.proofs.parts.Parts.step.Goals as goal

pub step_at-moves-requires-clause-room : goal.step_at-moves-requires-clause-room
step_at-moves-requires-clause-room c = c.requires.room.node_

pub step_at-moves-requires-clause-space : goal.step_at-moves-requires-clause-space
step_at-moves-requires-clause-space c = c.requires.room.out

pub extend-requires : goal.extend-requires
extend-requires c =
    let old = c.args.self.now in
    let after = c.step_at-moves.new.out in
    let all : c.len.result ≡ length after.messages = c.len.ensures ∙ (c.messages.result.now.ok.0 ∙ ap length c.messages.ensures) in
    let fit = flags_fit c.args.event c.args.node c.args.input.now old c.step_at-moves.new.nodes.items after c.step_at-moves.result old.given.spare c.requires.placed c.step_at-moves.ensures c.requires.room.given in
    omega (arith, all, fit, c.len-2.ensures, c.requires.even)

pub overflow_cast-answers : goal.overflow_cast-answers
overflow_cast-answers c =
    let old = c.args.self.now in
    let after = c.step_at-moves.new.out in
    let all : c.len-3.result ≡ length after.answers = c.len-3.ensures ∙ (c.answers-2.result.now.ok.0 ∙ ap length c.answers-2.ensures) in
    let fit = answers_fit c.args.event c.args.node c.args.input.now old c.step_at-moves.new.nodes.items after c.step_at-moves.result c.requires.placed c.step_at-moves.ensures in
    omega (arith, all, fit, c.requires.few)

pub returns-clause-comes : goal.returns-clause-comes
returns-clause-comes c =
    let old = c.args.self.now in
    let after = c.step_at-moves.new.out in
    let messages : c.len.result ≡ length after.messages = c.len.ensures ∙ (c.messages.result.now.ok.0 ∙ ap length c.messages.ensures) in
    let answers : c.len-3.result ≡ length after.answers = c.len-3.ensures ∙ (c.answers-2.result.now.ok.0 ∙ ap length c.answers-2.ensures) in
    let answered : c.len-answered.result ≡ length old.out.answers = c.len-answered.ensures ∙ (c.answers.result.now.ok.0 ∙ ap length c.answers.ensures) in
    step_done c.args.event c.args.node c.args.input.now old _ c.step_at-moves.result (c.len.result - c.len-2.result) (c.len-3.result - c.len-answered.result) c.requires.placed refl c.step_at-moves.ensures
    (omega (arith, messages, c.len-2.ensures, c.requires.even)) (omega (arith, answers, answered)) c.extend.ensures c.push_reserved.ensures.items

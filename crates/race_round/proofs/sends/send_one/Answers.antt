use Rattle.std.proofs.Common.{◌≢◌, ◌∙◌, eqb-true, inl, inr, refl, sym}
use Rattle.race_round.proofs.Letters.{loses_copy, other_number, own_unsent, sent_copy, strange_unsent}
use Rattle.std.proofs.lemmas.Bool.{eqb-false}
use Rattle.race_round.proofs.sends.send_one.Goals as goal
use Rattle.race_round.proofs.sends.send_one.Goals.{then-receiver-lt1-via-then-receiver-lt1, then-receiver-lt1-via-else-receiver-lt1+then-nodes-receiver}

pub returns-then-eq-clause-sent : goal.returns-then-eq-clause-sent
returns-then-eq-clause-sent c before e =
    own_unsent c.args.ends.now c.args.message.now before c.args.stamp (eqb-true c.args.message.now.receiver.0 c.node.result.0 (sym c.eq.ensures ∙ c.if-eq.true) ∙ c.node.ensures)

pub returns-then-receiver-lt1-clause-sent : goal.returns-then-receiver-lt1-clause-sent
returns-then-receiver-lt1-clause-sent c before e =
    strange_unsent c.args.ends.now c.args.message.now before c.args.stamp c.args.nodes c.requires.node.0 c.requires.width
    (elim c.then-receiver-lt1.branch [
      | then-receiver-lt1-via-then-receiver-lt1 w ↦ inl w.if-receiver-lt1.true
      | then-receiver-lt1-via-else-receiver-lt1+then-nodes-receiver w ↦ inr w.if-nodes-receiver.true
    ])

pub returns-clause-sent : goal.returns-clause-sent
returns-clause-sent c before e =
    let apart : c.args.message.now.receiver.0 ≢ c.args.ends.now.node =
    (λ q. eqb-false c.args.message.now.receiver.0 c.node.result.0 (sym c.eq.ensures ∙ c.if-eq.false) (q ∙ sym c.node.ensures)) in
    let other = other_number c.args.ends.now c.args.message.now.receiver.0 c.args.nodes c.requires.node.0 c.requires.node.1 c.requires.width apart c.if-receiver-lt1.false c.if-nodes-receiver.false in
    sent_copy c.args.ends.now c.send.new.self c.args.message.now _ before c.args.stamp c.requires.node.0 other c.send.ensures.only c.send.ensures.sent c.copy.ensures e refl

pub returns-clause-room : goal.returns-clause-room
returns-clause-room c =
    let apart : c.args.message.now.receiver.0 ≢ c.args.ends.now.node =
    (λ q. eqb-false c.args.message.now.receiver.0 c.node.result.0 (sym c.eq.ensures ∙ c.if-eq.false) (q ∙ sym c.node.ensures)) in
    let other = other_number c.args.ends.now c.args.message.now.receiver.0 c.args.nodes c.requires.node.0 c.requires.node.1 c.requires.width apart c.if-receiver-lt1.false c.if-nodes-receiver.false in
    loses_copy c.args.ends.now c.send.new.self c.args.message.now _ c.requires.node.0 other c.send.ensures.only c.send.ensures.sent c.copy.ensures

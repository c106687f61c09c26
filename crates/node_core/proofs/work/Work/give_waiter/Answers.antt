use Rattle.str_model.specs.Acts.{replied}
use Rattle.node_core.proofs.Waiting.WaiterSteps.{gives, gives_read, left_does, left_fits}
use Rattle.node_core.proofs.work.Work.give_waiter.Goals as goal

pub reply-requires : goal.reply-requires
reply-requires c =
    let a = c.in-Read in
    left_fits c.args.self.now c.args.j c.unwait.result c.unwait.ensures.value c.unwait.new.self c.unwait.ensures.done (λ h d. replied h a.tx a.key c.args.value c.args.by c.args.fc.0 d)
    (gives c.args.self.now c.args.j c.unwait.result c.unwait.ensures.value a.tx a.key a.rs c.args.value c.args.by c.args.fc a.is (c.requires.turn c.unwait.result c.unwait.ensures.value)) (c.requires.fits c.unwait.result c.unwait.ensures.value)

pub unreachable-requires : goal.unreachable-requires
unreachable-requires c = gives_read c.args.self.now c.args.j c.unwait.result c.unwait.ensures.value _ c.args.value c.args.by c.args.fc c.in-Held.is (c.requires.turn c.unwait.result c.unwait.ensures.value)

pub returns : goal.returns
returns c =
    let a = c.in-Read in
    left_does c.args.self.now c.args.j c.unwait.result c.unwait.ensures.value c.unwait.new.self c.unwait.ensures.done (λ h d. replied h a.tx a.key c.args.value c.args.by c.args.fc.0 d)
    (gives c.args.self.now c.args.j c.unwait.result c.unwait.ensures.value a.tx a.key a.rs c.args.value c.args.by c.args.fc a.is (c.requires.turn c.unwait.result c.unwait.ensures.value)) c.reply.new.self c.reply.ensures

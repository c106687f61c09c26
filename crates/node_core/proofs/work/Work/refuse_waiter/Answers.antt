use Rattle.str_model.specs.Acts.{refused}
use Rattle.node_core.proofs.Waiting.WaiterSteps.{left_does, left_fits, refuses, refuses_held}
use Rattle.node_core.proofs.work.Work.refuse_waiter.Goals as goal

pub refuse-requires : goal.refuse-requires
refuse-requires c =
    left_fits c.args.self.now c.args.j c.unwait.result c.unwait.ensures.value c.unwait.new.self c.unwait.ensures.done (λ h d. refused h c.in-Held.a c.args.by c.args.key d)
    (refuses c.args.self.now c.args.j c.unwait.result c.unwait.ensures.value c.in-Held.a c.args.by c.args.key c.in-Held.is (c.requires.turn c.unwait.result c.unwait.ensures.value)) (c.requires.fits c.unwait.result c.unwait.ensures.value)

pub unreachable-requires : goal.unreachable-requires
unreachable-requires c = refuses_held c.args.self.now c.args.j c.unwait.result c.unwait.ensures.value _ _ _ c.args.by c.args.key c.in-Read.is (c.requires.turn c.unwait.result c.unwait.ensures.value)

pub returns : goal.returns
returns c =
    left_does c.args.self.now c.args.j c.unwait.result c.unwait.ensures.value c.unwait.new.self c.unwait.ensures.done (λ h d. refused h c.in-Held.a c.args.by c.args.key d)
    (refuses c.args.self.now c.args.j c.unwait.result c.unwait.ensures.value c.in-Held.a c.args.by c.args.key c.in-Held.is (c.requires.turn c.unwait.result c.unwait.ensures.value)) c.refuse.new.self c.refuse.ensures

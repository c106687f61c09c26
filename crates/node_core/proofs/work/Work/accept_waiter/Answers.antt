use Rattle.str_model.specs.Acts.{accepted}
use Rattle.node_core.proofs.Waiting.WaiterSteps.{accepts, accepts_held, held_place, left_does, left_fits}
use Rattle.node_core.proofs.work.Work.accept_waiter.Goals as goal

pub accept-requires-clause-can : goal.accept-requires-clause-can
accept-requires-clause-can c = held_place c.args.self.now c.args.j c.unwait.result c.unwait.ensures.value c.unwait.new.self c.unwait.ensures.done c.requires.facts c.in-Held.a c.in-Held.is

pub accept-requires-clause-fits : goal.accept-requires-clause-fits
accept-requires-clause-fits c =
    left_fits c.args.self.now c.args.j c.unwait.result c.unwait.ensures.value c.unwait.new.self c.unwait.ensures.done (λ h d. accepted h c.in-Held.a c.args.ts.0 d)
    (accepts c.args.self.now c.args.j c.unwait.result c.unwait.ensures.value c.in-Held.a c.args.ts c.in-Held.is (c.requires.turn c.unwait.result c.unwait.ensures.value)) (c.requires.fits c.unwait.result c.unwait.ensures.value)

pub unreachable-requires : goal.unreachable-requires
unreachable-requires c = accepts_held c.args.self.now c.args.j c.unwait.result c.unwait.ensures.value _ _ _ c.args.ts c.in-Read.is (c.requires.turn c.unwait.result c.unwait.ensures.value)

pub returns : goal.returns
returns c =
    left_does c.args.self.now c.args.j c.unwait.result c.unwait.ensures.value c.unwait.new.self c.unwait.ensures.done (λ h d. accepted h c.in-Held.a c.args.ts.0 d)
    (accepts c.args.self.now c.args.j c.unwait.result c.unwait.ensures.value c.in-Held.a c.args.ts c.in-Held.is (c.requires.turn c.unwait.result c.unwait.ensures.value)) c.accept.new.self c.accept.ensures

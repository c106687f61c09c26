use Rattle.std.proofs.Common.{refl}
use Rattle.node_core.specs.declared.waiters.WaiterTurn.TheVariants.{Accept, Give, Refuse}
use Rattle.node_core.proofs.Waiting.WaiterSteps.{tried_leaves, tried_stays}
use Rattle.node_core.proofs.work.Work.try_waiter.Goals as goal

pub returns-in-Stay : goal.returns-in-Stay
returns-in-Stay c r e = tried_stays c.args.self.now c.args.j r e (c.in-Stay.ensures r e)

pub returns-in-Give : goal.returns-in-Give
returns-in-Give c r e =
    let a = c.in-Give in tried_leaves c.args.self.now c.args.j r (Give a.value a.by a.fc) refl (a.ensures r e) c.give_waiter.new.self (c.give_waiter.ensures r e)

pub returns-in-Accept : goal.returns-in-Accept
returns-in-Accept c r e = let a = c.in-Accept in tried_leaves c.args.self.now c.args.j r (Accept a.ts) refl (a.ensures r e) c.accept_waiter.new.self (c.accept_waiter.ensures r e)

pub returns-in-Refuse : goal.returns-in-Refuse
returns-in-Refuse c r e = let a = c.in-Refuse in tried_leaves c.args.self.now c.args.j r (Refuse a.by a.key) refl (a.ensures r e) c.refuse_waiter.new.self (c.refuse_waiter.ensures r e)

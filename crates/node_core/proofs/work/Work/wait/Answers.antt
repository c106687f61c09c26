use Rattle.std.proofs.Common.{arith, subst, sym}
use Rattle.node_core.specs.Working.{Fits, WorkState}
use Rattle.node_core.proofs.Parts.HeldChanges.{wait_did, wait_room}
use Rattle.str_model.specs.Acts.{waits}
use Rattle.node_core.proofs.work.Work.wait.Goals as goal

pub overflow_sub-self : goal.overflow_sub-self
overflow_sub-self c =
    let f = subst (λ (w : WorkState). Fits w (waits c.args.waiter w.doing)) (sym c.self.view_is) c.requires in
    wait_room c.self.inside.site c.self.inside.held c.self.inside.own c.self.inside.out c.self.inside.left c.self.inside.room c.args.waiter c.self.invariant.within f

pub add-requires : goal.add-requires
add-requires c =
    let f = subst (λ (w : WorkState). Fits w (waits c.args.waiter w.doing)) (sym c.self.view_is) c.requires in
    let l = wait_room c.self.inside.site c.self.inside.held c.self.inside.own c.self.inside.out c.self.inside.left c.self.inside.room c.args.waiter c.self.invariant.within f in
    let r = c.self.invariant.has_room.parked in omega (arith, l, r)

pub returns : goal.returns
returns c =
    let f = subst (λ (w : WorkState). Fits w (waits c.args.waiter w.doing)) (sym c.self.view_is) c.requires in
    let l = wait_room c.self.inside.site c.self.inside.held c.self.inside.own c.self.inside.out c.self.inside.left c.self.inside.room c.args.waiter c.self.invariant.within f in
    rw (← c.self.view_is) (wait_did c.self.inside.site c.self.inside.held c.self.inside.own c.self.inside.out c.self.inside.left c.self.inside.room c.add.new.self _ c.args.waiter c.add.ensures.waiters (omega (arith, l)) c.self.invariant.within)

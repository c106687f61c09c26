use Rattle.std.proofs.Common.{arith, subst, sym}
use Rattle.node_core.specs.Working.{Fits, WorkState}
use Rattle.node_core.proofs.Parts.HeldChanges.{refuse_did, refuse_room}
use Rattle.str_model.specs.Acts.{refused}
use Rattle.node_core.proofs.work.Work.refuse.Goals as goal

pub overflow_sub-self : goal.overflow_sub-self
overflow_sub-self c =
    let f = subst (λ (w : WorkState). Fits w (refused w.here c.args.a.now c.args.by c.args.key w.doing)) (sym c.self.view_is) c.requires in
    (refuse_room c.self.inside.site c.self.inside.held c.self.inside.own c.self.inside.out c.self.inside.left c.self.inside.room c.args.a.now c.args.by c.args.key c.self.invariant.within f).0

pub add-requires : goal.add-requires
add-requires c =
    let f = subst (λ (w : WorkState). Fits w (refused w.here c.args.a.now c.args.by c.args.key w.doing)) (sym c.self.view_is) c.requires in
    let l = (refuse_room c.self.inside.site c.self.inside.held c.self.inside.own c.self.inside.out c.self.inside.left c.self.inside.room c.args.a.now c.args.by c.args.key c.self.invariant.within f).0 in
    let r = c.self.invariant.has_room.done in omega (arith, l, r)

pub send-requires : goal.send-requires
send-requires c =
    let f = subst (λ (w : WorkState). Fits w (refused w.here c.args.a.now c.args.by c.args.key w.doing)) (sym c.self.view_is) c.requires in
    (refuse_room c.self.inside.site c.self.inside.held c.self.inside.own c.self.inside.out c.self.inside.left c.self.inside.room c.args.a.now c.args.by c.args.key c.self.invariant.within f).1

pub returns : goal.returns
returns c =
    let f = subst (λ (w : WorkState). Fits w (refused w.here c.args.a.now c.args.by c.args.key w.doing)) (sym c.self.view_is) c.requires in
    let l = (refuse_room c.self.inside.site c.self.inside.held c.self.inside.own c.self.inside.out c.self.inside.left c.self.inside.room c.args.a.now c.args.by c.args.key c.self.invariant.within f).0 in
    rw (← c.self.view_is) (refuse_did c.self.inside.site c.self.inside.held c.self.inside.own c.self.inside.out c.self.inside.left c.self.inside.room c.add.new.self c.send.new.out _ c.args.a.now c.args.by c.args.key c.add.ensures.pairs c.send.ensures (omega (arith, l)) c.self.invariant.within)

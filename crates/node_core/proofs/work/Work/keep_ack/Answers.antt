use Rattle.std.proofs.Common.{subst, sym}
use Rattle.node_core.specs.Working.{IsOpen}
use Rattle.node_core.proofs.Parts.HeldChanges.{ack_ruled, ack_works}
use Rattle.str_model.specs.Returns.{with_ack}
use Rattle.node_core.proofs.work.Work.keep_ack.Goals as goal

pub invariant_of-self : goal.invariant_of-self
invariant_of-self c =
    let o = subst (IsOpen c.args.i) (sym c.self.view_is) c.requires in
    ack_works c.self.inside.site c.self.inside.held c.self.inside.own c.ack.new.self c.self.inside.left c.self.inside.room c.args.i o.0 c.ack.result (with_ack o.0.parts c.args.part c.args.node c.args.ts.0) c.self.invariant (c.ack.ensures o.0 o.1)

pub returns : goal.returns
returns c = rw (← c.self.view_is) (λ x e. ack_ruled c.self.inside.site c.self.inside.held c.self.inside.own c.ack.new.self c.self.inside.out c.self.inside.left c.self.inside.room c.args.i x c.ack.result (with_ack x.parts c.args.part c.args.node c.args.ts.0) (c.ack.ensures x e))

use Rattle.std.proofs.Common.{subst, sym}
use Rattle.node_core.specs.Working.{Fits, WorkState}
use Rattle.node_core.proofs.Parts.HeldChanges.{reply_did, reply_space}
use Rattle.str_model.specs.Acts.{replied}
use Rattle.node_core.proofs.work.Work.reply.Goals as goal

pub send-requires : goal.send-requires
send-requires c =
    let f = subst (λ (w : WorkState). Fits w (replied w.here c.args.tx c.args.key c.args.value c.args.by c.args.fc.0 w.doing)) (sym c.self.view_is) c.requires in
    reply_space c.self.inside.site c.self.inside.held c.self.inside.own c.self.inside.out c.self.inside.left c.self.inside.room c.args.tx c.args.key c.args.value c.args.by c.args.fc.0 f

pub returns : goal.returns
returns c = rw (← c.self.view_is) (reply_did c.self.inside.site c.self.inside.held c.self.inside.own c.self.inside.out c.self.inside.left c.self.inside.room c.send.new.out c.args.tx c.args.key c.args.value c.args.by c.args.fc.0 c.send.ensures)

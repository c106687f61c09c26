use Rattle.node_core.proofs.Parts.PartChanges.{mark_did}
use Rattle.node_core.proofs.work.Work.mark.Goals as goal

pub returns : goal.returns
returns c =
    rw (← c.self.view_is)
    (mark_did c.self.inside.site c.self.inside.held c.self.inside.own c.self.inside.out c.self.inside.left c.self.inside.room c.raise.new.self c.args.key c.args.rs.0 c.raise.ensures.marks)

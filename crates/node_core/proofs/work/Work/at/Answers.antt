use Rattle.node_core.proofs.Parts.PartChanges.{node_new, view_new}
use Rattle.node_core.proofs.work.Work.at.Goals as goal

pub returns-clause-node : goal.returns-clause-node
returns-clause-node c =
    let h = c.in_ok-held.ensures in
    node_new c.args.site _ c.id.ensures.limits c.id.ensures.exists (view_new c.args.site c.in_ok-held.held c.in_ok-own.own h.versions h.marks h.floor h.lists c.in_ok-own.ensures.all)

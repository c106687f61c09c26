use Rattle.std.proofs.Common.{subst, sym}
use Rattle.node_core.specs.Working.{HasFacts}
use Rattle.node_core.proofs.Parts.PartChanges.{stored_of}
use Rattle.node_core.proofs.Parts.Showing.{ordered}
use Rattle.node_core.proofs.work.Work.end_step.Goals as goal

pub returns-clause-ordered : goal.returns-clause-ordered
returns-clause-ordered c =
    let f = subst HasFacts (sym c.self.view_is) c.requires.facts in
    ordered c.self.inside.site _ _ _ (stored_of c.self.inside.site c.self.inside.held c.self.inside.own _ _ c.self.invariant f.moment c.node.ensures.kept)

use Rattle.std.proofs.Common.{subst, sym}
use Rattle.node_parts.specs.Holding.{view_of}
use Rattle.node_core.specs.Arriving.{IsNamed}
use Rattle.node_core.specs.Working.{HasFacts, WorkState}
use Rattle.node_core.proofs.Parts.PartChanges.{stored_of}
use Rattle.node_core.proofs.Parts.Showing.{shows_replica}
use Rattle.replica_apply.proofs.FromFacts.{arrived_marks}
use Rattle.str_model.proofs.ViewFacts.ValidMessages.{named_writes}
use Rattle.str_model.proofs.ViewFacts.VersionsKept.{master_hosts}
use Rattle.str_model.specs.NodeFacts.{IsMasters}
use Rattle.node_core.proofs.work.Work.retry_turn.Goals as goal

pub retry-requires : goal.retry-requires
retry-requires c =
    let f = subst HasFacts (sym c.self.view_is) c.requires.facts in
    let k = subst (λ (w : WorkState). IsNamed w c.args.a.now) (sym c.self.view_is) c.requires.named in
    let a = c.args.a.now in
    let w = named_writes c.self.inside.site a.tx a.part a.rs a.lc a.writes k in
    record { keys = arrived_marks c.self.inside.site (view_of c.self.inside.held c.self.inside.own.all) f.moment a w }

pub returns : goal.returns
returns c =
    let f = subst HasFacts (sym c.self.view_is) c.requires.facts in
    let s = stored_of c.self.inside.site c.self.inside.held c.self.inside.own c.self.inside.left c.self.inside.room c.self.invariant f.moment c.node.ensures.kept in
    let k = subst (λ (w : WorkState). IsNamed w c.args.a.now) (sym c.self.view_is) c.requires.named in
    let a = c.args.a.now in
    let w = named_writes c.self.inside.site a.tx a.part a.rs a.lc a.writes k in
    let m = subst (λ (w : WorkState). IsMasters w.here a) (sym c.self.view_is) c.requires.masters in
    rw (← c.self.view_is)
    (c.retry.ensures.turn (view_of c.self.inside.held c.self.inside.own.all) (shows_replica c.self.inside.site (view_of c.self.inside.held c.self.inside.own.all) c.self.inside.held.store c.self.inside.held.cache s a w (master_hosts c.self.inside.site a.part m.master)))

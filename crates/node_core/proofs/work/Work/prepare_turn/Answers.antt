use Rattle.std.proofs.Common.{refl, subst, sym, ◌∙◌}
use Rattle.node_parts.specs.Holding.{view_of}
use Rattle.node_core.specs.Arriving.{IsNamed}
use Rattle.node_core.specs.Working.{HasFacts, WorkState}
use Rattle.node_core.proofs.Parts.ArrivedTurns.{prepare_is}
use Rattle.node_core.proofs.Parts.PartChanges.{stored_of}
use Rattle.node_core.proofs.Parts.Showing.{part_there}
use Rattle.partition_map.specs.Maps.{HasPart, PartitionMap}
use Rattle.prepare_master.specs.MasterTurns.{IsJudged, is_fresh, turn_of}
use Rattle.replica_apply.proofs.FromFacts.{arrived_marks}
use Rattle.str_base.specs.declared.names.NodeId.{NodeId}
use Rattle.str_model.proofs.ViewFacts.ValidMessages.{named_writes}
use Rattle.node_core.proofs.work.Work.prepare_turn.Goals as goal

pub prepare-requires-clause-part : goal.prepare-requires-clause-part
prepare-requires-clause-part c =
    let k = subst (λ (w : WorkState). IsNamed w c.args.a.now) (sym c.self.view_is) c.requires.named in
    let a = c.args.a.now in
    let w = named_writes c.self.inside.site a.tx a.part a.rs a.lc a.writes k in
    subst (λ z. HasPart z a.part) c.map.ensures.value (part_there c.self.inside.site a.part w.part)

pub prepare-requires-clause-keys : goal.prepare-requires-clause-keys
prepare-requires-clause-keys c =
    let f = subst HasFacts (sym c.self.view_is) c.requires.facts in
    let k = subst (λ (w : WorkState). IsNamed w c.args.a.now) (sym c.self.view_is) c.requires.named in
    let a = c.args.a.now in
    let w = named_writes c.self.inside.site a.tx a.part a.rs a.lc a.writes k in
    arrived_marks c.self.inside.site (view_of c.self.inside.held c.self.inside.own.all) f.moment a w

pub returns : goal.returns
returns c =
    let f = subst HasFacts (sym c.self.view_is) c.requires.facts in
    let k = subst (λ (w : WorkState). IsNamed w c.args.a.now) (sym c.self.view_is) c.requires.named in
    let s = stored_of c.self.inside.site c.self.inside.held c.self.inside.own c.self.inside.left c.self.inside.room c.self.invariant f.moment c.node.ensures.kept in
    let n = c.node.ensures.value ∙ c.self.invariant.stands.store_here in
    let a = c.args.a.now in
    let w = named_writes c.self.inside.site a.tx a.part a.rs a.lc a.writes k in
    rw (← c.self.view_is)
    (prepare_is c.self.inside.site (view_of c.self.inside.held c.self.inside.own.all) c.self.inside.held.store c.self.inside.held.cache s a w (turn_of c.prepare.result)
    (λ r. c.prepare.ensures.turn c.self.inside.site (view_of c.self.inside.held c.self.inside.own.all) (sym n, c.map.ensures.value) r refl refl)
    (subst (λ (m : PartitionMap). IsJudged (is_fresh m c.self.inside.site.node c.self.inside.held.store.versions c.self.inside.held.done.pairs c.self.inside.held.parked.waiters a) a c.self.inside.held.store.versions c.self.inside.held.marks (turn_of c.prepare.result)) (sym c.map.ensures.value)
    (subst (λ (z : NodeId). IsJudged (is_fresh c.map.result.now z c.self.inside.held.store.versions c.self.inside.held.done.pairs c.self.inside.held.parked.waiters a) a c.self.inside.held.store.versions c.self.inside.held.marks (turn_of c.prepare.result)) n c.prepare.ensures.causes)))

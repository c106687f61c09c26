use Rattle.std.proofs.Common.{refl, subst, sym, length, ◌∙◌}
use Rattle.node_parts.specs.Holding.{view_of}
use Rattle.node_core.specs.Arriving.{IsNamed}
use Rattle.node_core.specs.Working.{HasFacts, WorkState}
use Rattle.node_core.proofs.Parts.ArrivedTurns.{judged_here, last_held, last_here, slave_evicts, slave_is}
use Rattle.node_core.proofs.Parts.PartChanges.{stored_of}
use Rattle.node_core.proofs.Parts.Showing.{of_store, part_there}
use Rattle.partition_map.specs.Maps.{HasPart}
use Rattle.replica_apply.proofs.FromFacts.{arrived_marks, evicted_few, held_by_open}
use Rattle.replica_apply.specs.Slaves.{locals_to}
use Rattle.str_base.specs.declared.names.NodeId.{NodeId}
use Rattle.str_model.proofs.ViewFacts.ValidMessages.{named_writes}
use Rattle.std.specs.Prelude.{◌≤◌}
use Rattle.node_core.proofs.work.Work.slave_turn.Goals as goal

pub replicate-requires-clause-part : goal.replicate-requires-clause-part
replicate-requires-clause-part c =
    let k = subst (λ (w : WorkState). IsNamed w c.args.a.now) (sym c.self.view_is) c.requires.named in
    let a = c.args.a.now in
    let w = named_writes c.self.inside.site a.tx a.part a.rs a.lc a.writes k in
    subst (λ z. HasPart z a.part) c.map.ensures.value (part_there c.self.inside.site a.part w.part)

pub replicate-requires-clause-keys : goal.replicate-requires-clause-keys
replicate-requires-clause-keys c =
    let f = subst HasFacts (sym c.self.view_is) c.requires.facts in
    let k = subst (λ (w : WorkState). IsNamed w c.args.a.now) (sym c.self.view_is) c.requires.named in
    let a = c.args.a.now in
    let w = named_writes c.self.inside.site a.tx a.part a.rs a.lc a.writes k in
    arrived_marks c.self.inside.site (view_of c.self.inside.held c.self.inside.own.all) f.moment a w

pub replicate-requires-clause-few : goal.replicate-requires-clause-few
replicate-requires-clause-few c m =
    let f = subst HasFacts (sym c.self.view_is) c.requires.facts in
    let s = stored_of c.self.inside.site c.self.inside.held c.self.inside.own c.self.inside.left c.self.inside.room c.self.invariant f.moment c.node.ensures.kept in
    let n = c.node.ensures.value ∙ c.self.invariant.stands.store_here in
    subst (λ (z : NodeId). locals_to z c.self.inside.held.store.versions m ≤ 16) (sym n)
    (evicted_few c.self.inside.site (view_of c.self.inside.held c.self.inside.own.all) f.moment s.limits s.exists c.self.inside.held.store.versions (λ u j. (of_store c.self.inside.site (view_of c.self.inside.held c.self.inside.own.all) c.self.inside.held.store c.self.inside.held.cache s u j).0) m)

pub returns-clause-rule : goal.returns-clause-rule
returns-clause-rule c =
    let f = subst HasFacts (sym c.self.view_is) c.requires.facts in
    let k = subst (λ (w : WorkState). IsNamed w c.args.a.now) (sym c.self.view_is) c.requires.named in
    let s = stored_of c.self.inside.site c.self.inside.held c.self.inside.own c.self.inside.left c.self.inside.room c.self.invariant f.moment c.node.ensures.kept in
    let n = c.node.ensures.value ∙ c.self.invariant.stands.store_here in
    let a = c.args.a.now in
    let w = named_writes c.self.inside.site a.tx a.part a.rs a.lc a.writes k in
    let last = last_held c.self.inside.site (view_of c.self.inside.held c.self.inside.own.all) c.self.inside.held.store c.self.inside.held.cache s a w in
    let t = judged_here c.node.result c.self.inside.site.node _ c.map.result.now c.self.inside.held.store.versions c.self.inside.held.done.pairs c.self.inside.held.marks a a.writes (length c.self.inside.own.all) c.replicate.result n c.map.ensures.value (c.replicate.ensures.turn (length c.self.inside.own.all) (last_here c.node.result c.self.inside.site.node c.self.inside.held.store.versions a.writes (length c.self.inside.own.all) n last)) in
    rw (← c.self.view_is)
    (slave_is c.self.inside.site (view_of c.self.inside.held c.self.inside.own.all) c.self.inside.held.store c.self.inside.held.cache s a w _ refl c.replicate.result
    (λ r. c.replicate.ensures.rule c.self.inside.site _ (sym n, c.map.ensures.value) r refl (held_by_open c.self.inside.site (view_of c.self.inside.held c.self.inside.own.all) f.moment a.writes)) t)

pub returns-clause-evicted : goal.returns-clause-evicted
returns-clause-evicted c =
    let f = subst HasFacts (sym c.self.view_is) c.requires.facts in
    let k = subst (λ (w : WorkState). IsNamed w c.args.a.now) (sym c.self.view_is) c.requires.named in
    let s = stored_of c.self.inside.site c.self.inside.held c.self.inside.own c.self.inside.left c.self.inside.room c.self.invariant f.moment c.node.ensures.kept in
    let n = c.node.ensures.value ∙ c.self.invariant.stands.store_here in
    let a = c.args.a.now in
    let w = named_writes c.self.inside.site a.tx a.part a.rs a.lc a.writes k in
    let last = last_held c.self.inside.site (view_of c.self.inside.held c.self.inside.own.all) c.self.inside.held.store c.self.inside.held.cache s a w in
    let t = judged_here c.node.result c.self.inside.site.node _ c.map.result.now c.self.inside.held.store.versions c.self.inside.held.done.pairs c.self.inside.held.marks a a.writes (length c.self.inside.own.all) c.replicate.result n c.map.ensures.value (c.replicate.ensures.turn (length c.self.inside.own.all) (last_here c.node.result c.self.inside.site.node c.self.inside.held.store.versions a.writes (length c.self.inside.own.all) n last)) in
    rw (← c.self.view_is) (slave_evicts c.self.inside.site (view_of c.self.inside.held c.self.inside.own.all) c.self.inside.held.store c.self.inside.held.cache s a w c.replicate.result t)

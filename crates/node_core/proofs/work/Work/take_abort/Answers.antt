use Rattle.std.proofs.Common.{ap, arith, false, refl, subst, sym, true, ◌∙◌, ◌≡◌}
use Rattle.std.specs.List.{list_any}
use Rattle.node_parts.specs.Holding.{view_of}
use Rattle.node_core.specs.Working.{Fits, HasFacts, WorkState}
use Rattle.node_core.proofs.Parts.HeldChanges.{abort_came_did, abort_came_room, decides_here, is_new, ruled_done}
use Rattle.node_core.proofs.Parts.PartChanges.{stored_of}
use Rattle.partition_map.specs.Maps as maps
use Rattle.partition_map.specs.Maps.{PartitionMap}
use Rattle.str_base.specs.Versions.{same_node}
use Rattle.str_model.specs.Acts.{abort_came}
use Rattle.str_model.specs.Proposals.{is_pair}
use Rattle.str_model.specs.Steps.{decides, drop_held}
use Rattle.str_scene.specs.Scenes.{hosts}
use Rattle.node_core.proofs.work.Work.take_abort.Goals as goal

pub abort_at-requires : goal.abort_at-requires
abort_at-requires c =
    let site = c.self.inside.site in
    let n = c.node-node.ensures.value ∙ c.self.invariant.stands.store_here in
    let hosted : c.hosts.result ≡ true = c.if-not-hosts.false in
    let differs : same_node c.args.tx.node c.node-node.result ≡ false = sym c.eq.ensures ∙ c.if-eq.false in
    let hs : hosts site.scene site.node c.args.part ≡ true = ap (λ z. hosts site.scene z c.args.part) (sym n) ∙ (ap (λ (m : PartitionMap). maps.hosts m c.node-node.result c.args.part) c.map.ensures.value ∙ (sym c.hosts.ensures ∙ hosted)) in
    let other : same_node c.args.tx.node site.node ≡ false = ap (λ z. same_node c.args.tx.node z) (sym n) ∙ differs in
    let fits = subst (λ (w : WorkState). decides w.here c.args.tx c.args.part w.doing.view ≡ true → Fits w (abort_came c.args.tx c.args.part (drop_held c.args.tx c.args.part w.doing.view.waiters) w.doing)) (sym c.self.view_is) c.requires.fits in
    record {
      room = λ new.
          let l = abort_came_room c.self.inside.site c.self.inside.held c.self.inside.own c.self.inside.out c.self.inside.left c.self.inside.room c.args.tx c.args.part hs other new c.self.invariant.within fits in
          let r = c.self.invariant.has_room.done in omega (arith, l, r);
    }

pub overflow_sub-self : goal.overflow_sub-self
overflow_sub-self c =
    let site = c.self.inside.site in
    let n = c.node-node.ensures.value ∙ c.self.invariant.stands.store_here in
    let hosted : c.hosts.result ≡ true = c.if-not-hosts.false in
    let differs : same_node c.args.tx.node c.node-node.result ≡ false = sym c.eq.ensures ∙ c.if-eq.false in
    let hs : hosts site.scene site.node c.args.part ≡ true = ap (λ z. hosts site.scene z c.args.part) (sym n) ∙ (ap (λ (m : PartitionMap). maps.hosts m c.node-node.result c.args.part) c.map.ensures.value ∙ (sym c.hosts.ensures ∙ hosted)) in
    let other : same_node c.args.tx.node site.node ≡ false = ap (λ z. same_node c.args.tx.node z) (sym n) ∙ differs in
    let fits = subst (λ (w : WorkState). decides w.here c.args.tx c.args.part w.doing.view ≡ true → Fits w (abort_came c.args.tx c.args.part (drop_held c.args.tx c.args.part w.doing.view.waiters) w.doing)) (sym c.self.view_is) c.requires.fits in
    let new = is_new (list_any (is_pair c.args.tx c.args.part) c.self.inside.held.done.pairs) c.abort_at.result c.abort_at.ensures.answer c.if-not-abort_at.false in
    abort_came_room c.self.inside.site c.self.inside.held c.self.inside.own c.self.inside.out c.self.inside.left c.self.inside.room c.args.tx c.args.part hs other new c.self.invariant.within fits

pub returns : goal.returns
returns c =
    let site = c.self.inside.site in
    let n = c.node-node.ensures.value ∙ c.self.invariant.stands.store_here in
    let hosted : c.hosts.result ≡ true = c.if-not-hosts.false in
    let differs : same_node c.args.tx.node c.node-node.result ≡ false = sym c.eq.ensures ∙ c.if-eq.false in
    let hs : hosts site.scene site.node c.args.part ≡ true = ap (λ z. hosts site.scene z c.args.part) (sym n) ∙ (ap (λ (m : PartitionMap). maps.hosts m c.node-node.result c.args.part) c.map.ensures.value ∙ (sym c.hosts.ensures ∙ hosted)) in
    let other : same_node c.args.tx.node site.node ≡ false = ap (λ z. same_node c.args.tx.node z) (sym n) ∙ differs in
    let fits = subst (λ (w : WorkState). decides w.here c.args.tx c.args.part w.doing.view ≡ true → Fits w (abort_came c.args.tx c.args.part (drop_held c.args.tx c.args.part w.doing.view.waiters) w.doing)) (sym c.self.view_is) c.requires.fits in
    let new = is_new (list_any (is_pair c.args.tx c.args.part) c.self.inside.held.done.pairs) c.abort_at.result c.abort_at.ensures.answer c.if-not-abort_at.false in
    let l = abort_came_room c.self.inside.site c.self.inside.held c.self.inside.own c.self.inside.out c.self.inside.left c.self.inside.room c.args.tx c.args.part hs other new c.self.invariant.within fits in
    let facts = subst HasFacts (sym c.self.view_is) c.requires.facts in
    let s = stored_of site c.self.inside.held c.self.inside.own c.self.inside.left c.self.inside.room c.self.invariant facts.moment c.node-node.ensures.kept in
    rw (← c.self.view_is)
    (ruled_done _ _ true _ _ (decides_here site c.args.tx c.args.part (view_of c.self.inside.held c.self.inside.own.all) hs other new) refl
    (abort_came_did c.self.inside.site c.self.inside.held c.self.inside.own c.self.inside.out c.self.inside.left c.self.inside.room s c.abort_at.new.store c.abort_at.new.parked c.abort_at.new.done _ c.args.tx c.args.part hs (c.abort_at.ensures.view c.if-not-abort_at.false)
    (omega (arith, l)) c.self.invariant.within))

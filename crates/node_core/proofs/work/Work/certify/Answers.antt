use Rattle.std.proofs.Common.{rules, map, slice_set, List, ap, arith, false, length, refl, subst, sym, ◌∙◌, ◌≡◌}
use Rattle.std.proofs.lemmas.Option.{slice_get_within}
use Rattle.node_parts.specs.Holding.{view_of}
use Rattle.node_parts.specs.Owning.{IsFree}
use Rattle.node_core.specs.Working.{Fits, HasFacts, OwnIs, WorkState}
use Rattle.node_core.proofs.Parts.OwnChanges.{certify_did, certify_left}
use Rattle.node_core.proofs.Parts.PartChanges.{own_name, stored_of, work_stores}
use Rattle.node_core.proofs.Parts.Showing.{keys_to, node_in, lists_apart, none_cached, none_stored, same_at}
use Rattle.partition_map.specs.declared.rows.Asked.{Asked}
use Rattle.str_base.specs.declared.names.TxId.{TxId}
use Rattle.str_base.specs.declared.names.Write.{Write}
use Rattle.str_base.specs.Versions.{insert_all, of_tx}
use Rattle.str_model.proofs.OwnFacts.FewOwn.{others_few}
use Rattle.str_model.specs.NodeFacts.{AreDistinct}
use Rattle.str_scene.proofs.Mapped.{participants-mapped}
use Rattle.str_scene.specs.Scenes.{participants}
use Rattle.partition_map.specs.Maps.{PartitionMap}
use Rattle.partition_map.specs.Maps as maps
use Rattle.str_base.specs.declared.names.NodeId.{NodeId}
use Rattle.str_model.specs.Acts.{local_version, certified}
use Rattle.str_model.specs.Scripts.{at_own}
use Rattle.str_model.specs.Views.{Local, Own}
use Rattle.version_chain.specs.ChainLists.{Each, merged}
use Rattle.node_core.proofs.work.Work.certify.Goals as goal

pub at-x-requires : goal.at-x-requires
at-x-requires c =
    let o = subst (OwnIs (λ x. IsFree x × (c.args.snap.rs ≡ x.snap.rs)) c.args.i) (sym c.self.view_is) c.requires.own in
    slice_get_within _ c.args.i o.0 o.1

pub participants-parts-requires-clause-origin : goal.participants-parts-requires-clause-origin
participants-parts-requires-clause-origin c =
    let f = subst HasFacts (sym c.self.view_is) c.requires.facts in
    let s = stored_of c.self.inside.site c.self.inside.held c.self.inside.own c.self.inside.left c.self.inside.room c.self.invariant f.moment c.node.ensures.kept in
    let n = c.node.ensures.value ∙ c.self.invariant.stands.store_here in
    let e = ap (λ (z : NodeId). z.0) n in
    let k = node_in c.self.inside.site s.limits s.exists in (omega (arith, e, k.0), omega (arith, e, k.1))

pub participants-parts-requires-clause-keys : goal.participants-parts-requires-clause-keys
participants-parts-requires-clause-keys c =
    let f = subst HasFacts (sym c.self.view_is) c.requires.facts in
    let s = stored_of c.self.inside.site c.self.inside.held c.self.inside.own c.self.inside.left c.self.inside.room c.self.invariant f.moment c.node.ensures.kept in
    let n = c.node.ensures.value ∙ c.self.invariant.stands.store_here in
    let o = subst (OwnIs (λ x. IsFree x × (c.args.snap.rs ≡ x.snap.rs)) c.args.i) (sym c.self.view_is) c.requires.own in
    let y = same_at _ c.args.i _ _ c.at-x.ensures.own o.1 in
    let ws = c.writes-writes.ensures ∙ ap (λ (z : Own). z.writes) y in
    keys_to c.self.inside.site (view_of c.self.inside.held c.self.inside.own.all) c.self.inside.held.store c.self.inside.held.cache s c.node.result n c.map.result.now c.map.ensures.value c.args.i o.0 c.writes-writes.result.now o.1 ws

pub insert_all-requires-clause-tx : goal.insert_all-requires-clause-tx
insert_all-requires-clause-tx c =
    let t = own_name c.self.inside.site c.self.inside.own c.args.i c.tx-tx.result _ c.tx-tx.ensures c.at-x.ensures.tx c.self.invariant.own_node in
    ap (λ (z : TxId). z.node) t

pub insert_all-requires-clause-keys : goal.insert_all-requires-clause-keys
insert_all-requires-clause-keys c =
    let f = subst HasFacts (sym c.self.view_is) c.requires.facts in
    let s = stored_of c.self.inside.site c.self.inside.held c.self.inside.own c.self.inside.left c.self.inside.room c.self.invariant f.moment c.node.ensures.kept in
    let o = subst (OwnIs (λ x. IsFree x × (c.args.snap.rs ≡ x.snap.rs)) c.args.i) (sym c.self.view_is) c.requires.own in
    let y = same_at _ c.args.i _ _ c.at-x.ensures.own o.1 in
    let ws = c.writes-writes.ensures ∙ ap (λ (z : Own). z.writes) y in
    keys_to c.self.inside.site (view_of c.self.inside.held c.self.inside.own.all) c.self.inside.held.store c.self.inside.held.cache s c.self.inside.site.node refl _ refl c.args.i o.0 c.writes-writes.result.now o.1 ws

pub insert_all-requires-clause-distinct : goal.insert_all-requires-clause-distinct
insert_all-requires-clause-distinct c =
    let f = subst HasFacts (sym c.self.view_is) c.requires.facts in
    let o = subst (OwnIs (λ x. IsFree x × (c.args.snap.rs ≡ x.snap.rs)) c.args.i) (sym c.self.view_is) c.requires.own in
    let y = same_at _ c.args.i _ _ c.at-x.ensures.own o.1 in
    let ws = c.writes-writes.ensures ∙ ap (λ (z : Own). z.writes) y in
    subst AreDistinct (sym ws) (f.moment.scripts c.args.i o.0 o.1).once

pub insert_all-requires-clause-here : goal.insert_all-requires-clause-here
insert_all-requires-clause-here c = c.self.invariant.stands

pub insert_all-requires-clause-stored : goal.insert_all-requires-clause-stored
insert_all-requires-clause-stored c =
    let f = subst HasFacts (sym c.self.view_is) c.requires.facts in
    let s = stored_of c.self.inside.site c.self.inside.held c.self.inside.own c.self.inside.left c.self.inside.room c.self.invariant f.moment c.node.ensures.kept in
    let o = subst (OwnIs (λ x. IsFree x × (c.args.snap.rs ≡ x.snap.rs)) c.args.i) (sym c.self.view_is) c.requires.own in
    let t = own_name c.self.inside.site c.self.inside.own c.args.i c.tx-tx.result _ c.tx-tx.ensures c.at-x.ensures.tx c.self.invariant.own_node in
    subst (λ (z : TxId). Each (λ v. of_tx z v ≡ false) c.self.inside.held.store.versions) (sym t) (none_stored c.self.inside.site (view_of c.self.inside.held c.self.inside.own.all) c.self.inside.held.store c.self.inside.held.cache s c.args.i o.0 o.1 o.2.0.1)

pub insert_all-requires-clause-cached : goal.insert_all-requires-clause-cached
insert_all-requires-clause-cached c =
    let f = subst HasFacts (sym c.self.view_is) c.requires.facts in
    let s = stored_of c.self.inside.site c.self.inside.held c.self.inside.own c.self.inside.left c.self.inside.room c.self.invariant f.moment c.node.ensures.kept in
    let o = subst (OwnIs (λ x. IsFree x × (c.args.snap.rs ≡ x.snap.rs)) c.args.i) (sym c.self.view_is) c.requires.own in
    let t = own_name c.self.inside.site c.self.inside.own c.args.i c.tx-tx.result _ c.tx-tx.ensures c.at-x.ensures.tx c.self.invariant.own_node in
    subst (λ (z : TxId). Each (λ v. of_tx z v ≡ false) c.self.inside.held.cache.versions) (sym t) (none_cached c.self.inside.site (view_of c.self.inside.held c.self.inside.own.all) c.self.inside.held.store c.self.inside.held.cache s c.args.i o.0 o.1 o.2.0.1)

pub insert_all-requires-clause-store_room : goal.insert_all-requires-clause-store_room
insert_all-requires-clause-store_room c =
    let o = subst (OwnIs (λ x. IsFree x × (c.args.snap.rs ≡ x.snap.rs)) c.args.i) (sym c.self.view_is) c.requires.own in
    let y = same_at _ c.args.i _ _ c.at-x.ensures.own o.1 in
    let ws = c.writes-writes.ensures ∙ ap (λ (z : Own). z.writes) y in
    let g = subst (λ (w : WorkState). Fits w (at_own c.args.i (certified w.here c.args.i c.args.lc.0 c.args.snap) w.doing)) (sym c.self.view_is) c.requires.fits in
    let l = certify_left c.self.inside.site c.self.inside.held c.self.inside.own c.self.inside.own c.self.inside.out c.self.inside.left c.self.inside.room c.args.i o.0 o.1 o.2.0.0 c.args.lc.0 c.args.snap c.self.invariant.within g in
    let q = ap (λ (z : List Write). length z) ws in
    let r = c.self.invariant.has_room.store in omega (arith, l, q, r)

pub insert_all-requires-clause-cache_room : goal.insert_all-requires-clause-cache_room
insert_all-requires-clause-cache_room c =
    let o = subst (OwnIs (λ x. IsFree x × (c.args.snap.rs ≡ x.snap.rs)) c.args.i) (sym c.self.view_is) c.requires.own in
    let y = same_at _ c.args.i _ _ c.at-x.ensures.own o.1 in
    let ws = c.writes-writes.ensures ∙ ap (λ (z : Own). z.writes) y in
    let g = subst (λ (w : WorkState). Fits w (at_own c.args.i (certified w.here c.args.i c.args.lc.0 c.args.snap) w.doing)) (sym c.self.view_is) c.requires.fits in
    let l = certify_left c.self.inside.site c.self.inside.held c.self.inside.own c.self.inside.own c.self.inside.out c.self.inside.left c.self.inside.room c.args.i o.0 o.1 o.2.0.0 c.args.lc.0 c.args.snap c.self.invariant.within g in
    let q = ap (λ (z : List Write). length z) ws in
    let r = c.self.invariant.has_room.cache in omega (arith, l, q, r)

pub certify-requires-clause-own : goal.certify-requires-clause-own
certify-requires-clause-own c = subst (OwnIs (λ x. IsFree x × (c.args.snap.rs ≡ x.snap.rs)) c.args.i) (sym c.self.view_is) c.requires.own

pub certify-requires-clause-few : goal.certify-requires-clause-few
certify-requires-clause-few c =
    let f = subst HasFacts (sym c.self.view_is) c.requires.facts in
    let s = stored_of c.self.inside.site c.self.inside.held c.self.inside.own c.self.inside.left c.self.inside.room c.self.invariant f.moment c.node.ensures.kept in
    let o = subst (OwnIs (λ x. IsFree x × (c.args.snap.rs ≡ x.snap.rs)) c.args.i) (sym c.self.view_is) c.requires.own in
    others_few c.self.inside.site s.limits s.exists c.self.inside.own.all f.moment.order c.args.i o.0 o.1 o.2.0.0 o.2.0.1

pub returns : goal.returns
returns c =
    let f = subst HasFacts (sym c.self.view_is) c.requires.facts in
    let s = stored_of c.self.inside.site c.self.inside.held c.self.inside.own c.self.inside.left c.self.inside.room c.self.invariant f.moment c.node.ensures.kept in
    let n = c.node.ensures.value ∙ c.self.invariant.stands.store_here in
    let o = subst (OwnIs (λ x. IsFree x × (c.args.snap.rs ≡ x.snap.rs)) c.args.i) (sym c.self.view_is) c.requires.own in
    let y = same_at _ c.args.i _ _ c.at-x.ensures.own o.1 in
    let t = own_name c.self.inside.site c.self.inside.own c.args.i c.tx-tx.result _ c.tx-tx.ensures c.at-x.ensures.tx c.self.invariant.own_node in
    let ws = c.writes-writes.ensures ∙ ap (λ (z : Own). z.writes) y in
    let g = subst (λ (w : WorkState). Fits w (at_own c.args.i (certified w.here c.args.i c.args.lc.0 c.args.snap) w.doing)) (sym c.self.view_is) c.requires.fits in
    let l = certify_left c.self.inside.site c.self.inside.held c.self.inside.own c.self.inside.own c.self.inside.out c.self.inside.left c.self.inside.room c.args.i o.0 o.1 o.2.0.0 c.args.lc.0 c.args.snap c.self.invariant.within g in
    let q = ap (λ (z : List Write). length z) ws in
    let parts = c.participants-parts.ensures
    ∙ (ap (λ (m : PartitionMap). maps.participants m c.node.result c.writes-writes.result.now) (sym c.map.ensures.value)
    ∙ (participants-mapped c.self.inside.site.scene c.node.result c.writes-writes.result.now
    ∙ (ap (λ (z : NodeId). participants c.self.inside.site.scene z c.writes-writes.result.now) n ∙ ap (λ (z : List Write). participants c.self.inside.site.scene c.self.inside.site.node z) ws))) in
    rw (← c.self.view_is)
    (certify_did c.self.inside.site c.self.inside.held c.self.inside.own c.certify.new.self c.self.inside.out c.self.inside.left c.self.inside.room c.args.i o.0 o.1 o.2.0.0 c.insert_all.new.store c.insert_all.new.cache _ _ c.args.lc.0 c.args.snap
    (c.insert_all.ensures.merged c.args.i t (lists_apart c.self.inside.site (view_of c.self.inside.held c.self.inside.own.all) c.self.inside.held.store c.self.inside.held.cache s)
    ∙ ap (λ (z : List Write). insert_all (map (local_version c.self.inside.site c.args.i c.args.lc.0) z) (merged c.self.inside.held.cache.versions c.self.inside.held.store.versions)) ws)
    (search rules)
    (ap (λ q. q.all) (c.certify.ensures o.0 o.1)
    ∙ ap (λ (z : List Asked). slice_set c.self.inside.own.all c.args.i (record (o.0) { snap = c.args.snap; parts = z; phase = Local c.args.lc.0 })) parts)
    (let k = c.len.ensures.len in omega (arith, l, q, k)) c.self.invariant.within)

pub overflow_sub-self : goal.overflow_sub-self
overflow_sub-self c =
    let o = subst (OwnIs (λ x. IsFree x × (c.args.snap.rs ≡ x.snap.rs)) c.args.i) (sym c.self.view_is) c.requires.own in
    let y = same_at _ c.args.i _ _ c.at-x.ensures.own o.1 in
    let ws = c.writes-writes.ensures ∙ ap (λ (z : Own). z.writes) y in
    let g = subst (λ (w : WorkState). Fits w (at_own c.args.i (certified w.here c.args.i c.args.lc.0 c.args.snap) w.doing)) (sym c.self.view_is) c.requires.fits in
    let l = certify_left c.self.inside.site c.self.inside.held c.self.inside.own c.self.inside.own c.self.inside.out c.self.inside.left c.self.inside.room c.args.i o.0 o.1 o.2.0.0 c.args.lc.0 c.args.snap c.self.invariant.within g in
    let q = ap (λ (z : List Write). length z) ws in
    let n = c.len.ensures.len in omega (arith, l, q, n)

pub invariant_of-self : goal.invariant_of-self
invariant_of-self c =
    let o = subst (OwnIs (λ x. IsFree x × (c.args.snap.rs ≡ x.snap.rs)) c.args.i) (sym c.self.view_is) c.requires.own in
    let y = same_at _ c.args.i _ _ c.at-x.ensures.own o.1 in
    let ws = c.writes-writes.ensures ∙ ap (λ (z : Own). z.writes) y in
    let g = subst (λ (w : WorkState). Fits w (at_own c.args.i (certified w.here c.args.i c.args.lc.0 c.args.snap) w.doing)) (sym c.self.view_is) c.requires.fits in
    let l = certify_left c.self.inside.site c.self.inside.held c.self.inside.own c.self.inside.own c.self.inside.out c.self.inside.left c.self.inside.room c.args.i o.0 o.1 o.2.0.0 c.args.lc.0 c.args.snap c.self.invariant.within g in
    let q = ap (λ (z : List Write). length z) ws in
    let n = c.len.ensures.len in
    let r = c.self.invariant.has_room in
    let store = c.insert_all.ensures.store_spare in
    let cache = c.insert_all.ensures.cache_spare in
    work_stores c.self.inside.site c.self.inside.held _ c.self.inside.own c.certify.new.self c.self.inside.left _ c.self.inside.room c.args.i _ c.self.invariant (c.certify.ensures o.0 o.1) c.insert_all.ensures.store_here c.insert_all.ensures.cache_here
    (record {
      store = (let a = r.store in omega (arith, a, l, q, n, store));
      cache = (let a = r.cache in omega (arith, a, l, q, n, cache));
      done = (let a = r.done in omega (arith, a, l, q, n));
      parked = (let a = r.parked in omega (arith, a, l, q, n));
    })
    (omega (arith, l, q, n))

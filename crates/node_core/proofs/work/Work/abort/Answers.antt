use Rattle.std.proofs.Common.{List, ap, arith, length, refl, subst, sym, ◌∙◌}
use Rattle.std.proofs.lemmas.Option.{slice_get_within}
use Rattle.node_parts.specs.Holding.{view_of}
use Rattle.node_parts.specs.Letters.{Sends}
use Rattle.node_core.specs.Working.{Fits, HasFacts, IsOpen, WorkState}
use Rattle.node_core.proofs.Parts.OwnChanges.{abort_count, abort_did, abort_space, answer_is, release_is}
use Rattle.node_core.proofs.Parts.PartChanges.{own_name, stored_of}
use Rattle.node_core.proofs.Parts.Showing.{keys_to, lists_apart, same_at, written_to}
use Rattle.partition_map.specs.declared.rows.Asked.{Asked}
use Rattle.str_base.specs.declared.names.TxId.{TxId}
use Rattle.str_base.specs.Versions.{of_tx, without}
use Rattle.str_model.specs.Acts.{abort_letters, aborted, asked_ones}
use Rattle.str_model.specs.declared.messages.Outcome.TheVariants.{Aborted as Aborts}
use Rattle.str_model.specs.Scripts.{at_own}
use Rattle.str_model.specs.Views.{Own}
use Rattle.version_chain.specs.ChainLists.{merged}
use Rattle.node_core.proofs.work.Work.abort.Goals as goal

pub at-x-requires : goal.at-x-requires
at-x-requires c =
    let o = subst (IsOpen c.args.i) (sym c.self.view_is) c.requires.own in
    slice_get_within _ c.args.i o.0 o.1

pub drop_all-requires-clause-keys : goal.drop_all-requires-clause-keys
drop_all-requires-clause-keys c =
    let f = subst HasFacts (sym c.self.view_is) c.requires.facts in
    let s = stored_of c.self.inside.site c.self.inside.held c.self.inside.own c.self.inside.left c.self.inside.room c.self.invariant f.moment c.node.ensures.kept in
    let o = subst (IsOpen c.args.i) (sym c.self.view_is) c.requires.own in
    let y = same_at _ c.args.i _ _ c.at-x.ensures.own o.1 in
    keys_to c.self.inside.site (view_of c.self.inside.held c.self.inside.own.all) c.self.inside.held.store c.self.inside.held.cache s c.self.inside.site.node refl c.map.result.now c.map.ensures.value c.args.i o.0 c.writes.result.now o.1 (c.writes.ensures ∙ ap (λ (z : Own). z.writes) y)

pub drop_all-requires-clause-stored : goal.drop_all-requires-clause-stored
drop_all-requires-clause-stored c =
    let f = subst HasFacts (sym c.self.view_is) c.requires.facts in
    let s = stored_of c.self.inside.site c.self.inside.held c.self.inside.own c.self.inside.left c.self.inside.room c.self.invariant f.moment c.node.ensures.kept in
    let o = subst (IsOpen c.args.i) (sym c.self.view_is) c.requires.own in
    let y = same_at _ c.args.i _ _ c.at-x.ensures.own o.1 in
    let t = own_name c.self.inside.site c.self.inside.own c.args.i c.tx-tx.result _ c.tx-tx.ensures c.at-x.ensures.tx c.self.invariant.own_node in
    (written_to c.self.inside.site (view_of c.self.inside.held c.self.inside.own.all) c.self.inside.held.store c.self.inside.held.cache s c.self.inside.site.node refl c.map.result.now c.map.ensures.value c.args.i o.0 c.writes.result.now c.tx-tx.result o.1 (c.writes.ensures ∙ ap (λ (z : Own). z.writes) y) t).0

pub drop_all-requires-clause-cached : goal.drop_all-requires-clause-cached
drop_all-requires-clause-cached c =
    let f = subst HasFacts (sym c.self.view_is) c.requires.facts in
    let s = stored_of c.self.inside.site c.self.inside.held c.self.inside.own c.self.inside.left c.self.inside.room c.self.invariant f.moment c.node.ensures.kept in
    let o = subst (IsOpen c.args.i) (sym c.self.view_is) c.requires.own in
    let y = same_at _ c.args.i _ _ c.at-x.ensures.own o.1 in
    let t = own_name c.self.inside.site c.self.inside.own c.args.i c.tx-tx.result _ c.tx-tx.ensures c.at-x.ensures.tx c.self.invariant.own_node in
    (written_to c.self.inside.site (view_of c.self.inside.held c.self.inside.own.all) c.self.inside.held.store c.self.inside.held.cache s c.self.inside.site.node refl c.map.result.now c.map.ensures.value c.args.i o.0 c.writes.result.now c.tx-tx.result o.1 (c.writes.ensures ∙ ap (λ (z : Own). z.writes) y) t).1

pub send_aborts-requires : goal.send_aborts-requires
send_aborts-requires c =
    let o = subst (IsOpen c.args.i) (sym c.self.view_is) c.requires.own in
    let y = same_at _ c.args.i _ _ c.at-x.ensures.own o.1 in
    let g = subst (λ (w : WorkState). Fits w (at_own c.args.i (aborted w.here c.args.i c.args.cause) w.doing)) (sym c.self.view_is) c.requires.fits in
    let l = abort_space c.self.inside.site c.self.inside.held c.self.inside.own c.self.inside.own c.self.inside.out c.self.inside.left c.self.inside.room c.args.i o.0 o.1 o.2 c.args.cause g in
    let q = ap (λ (z : List Asked). length (asked_ones z)) (c.parts.ensures ∙ ap (λ (z : Own). z.parts) y) in omega (arith, l, q)

pub release-requires : goal.release-requires
release-requires c =
    let o = subst (IsOpen c.args.i) (sym c.self.view_is) c.requires.own in
    let y = same_at _ c.args.i _ _ c.at-x.ensures.own o.1 in
    let t = own_name c.self.inside.site c.self.inside.own c.args.i c.tx-tx.result _ c.tx-tx.ensures c.at-x.ensures.tx c.self.invariant.own_node in
    let g = subst (λ (w : WorkState). Fits w (at_own c.args.i (aborted w.here c.args.i c.args.cause) w.doing)) (sym c.self.view_is) c.requires.fits in
    let l = abort_space c.self.inside.site c.self.inside.held c.self.inside.own c.self.inside.own c.self.inside.out c.self.inside.left c.self.inside.room c.args.i o.0 o.1 o.2 c.args.cause g in
    let q = ap (λ (z : List Asked). length (asked_ones z)) (c.parts.ensures ∙ ap (λ (z : Own). z.parts) y) in
    let m = abort_count c.self.inside.site c.args.i c.parts.result.now in
    let k = (c.send_aborts.ensures c.args.i t).space in omega (arith, l, q, m, k)

pub abort-answer-requires : goal.abort-answer-requires
abort-answer-requires c = subst (IsOpen c.args.i) (sym c.self.view_is) c.requires.own

pub returns : goal.returns
returns c =
    let f = subst HasFacts (sym c.self.view_is) c.requires.facts in
    let s = stored_of c.self.inside.site c.self.inside.held c.self.inside.own c.self.inside.left c.self.inside.room c.self.invariant f.moment c.node.ensures.kept in
    let o = subst (IsOpen c.args.i) (sym c.self.view_is) c.requires.own in
    let y = same_at _ c.args.i _ _ c.at-x.ensures.own o.1 in
    let t = own_name c.self.inside.site c.self.inside.own c.args.i c.tx-tx.result _ c.tx-tx.ensures c.at-x.ensures.tx c.self.invariant.own_node in
    let parts = c.parts.ensures ∙ ap (λ (z : Own). z.parts) y in
    let l = subst (λ (z : List Asked). Sends (abort_letters c.self.inside.site c.args.i z) c.self.inside.out c.send_aborts.new.out) parts (c.send_aborts.ensures c.args.i t) in
    rw (← c.self.view_is)
    (abort_did c.self.inside.site c.self.inside.held c.self.inside.own c.abort-answer.new.self c.self.inside.out c.self.inside.left c.self.inside.room c.args.i o.0 o.1 o.2 c.drop_all.new.store c.drop_all.new.cache c.send_aborts.new.out c.release.new.self c.args.cause
    (c.drop_all.ensures.merged c.node.ensures.kept.1 c.node.ensures.kept.0 (lists_apart c.self.inside.site (view_of c.self.inside.held c.self.inside.own.all) c.self.inside.held.store c.self.inside.held.cache s)
    ∙ ap (λ (z : TxId). without (of_tx z) (merged c.self.inside.held.cache.versions c.self.inside.held.store.versions)) t)
    l
    (release_is _ _ _ _ (answer_is c.self.inside.site c.self.inside.own c.args.i o.0 (Aborts c.args.cause) c.abort-answer.result c.self.invariant.own_node (c.abort-answer.ensures.answer o.0 o.1)) c.release.ensures.released c.release.ensures.stays c.release.ensures.space)
    (ap (λ q. q.all) (c.abort-answer.ensures.own o.0 o.1)))

use Rattle.std.proofs.Common.{rules, List, Some, ap, arith, false, length, refl, subst, sym, ◌∙◌, ◌≡◌}
use Rattle.std.proofs.lemmas.Option.{slice_get_within}
use Rattle.node_parts.specs.Holding.{view_of}
use Rattle.node_core.specs.Working.{Fits, HasFacts, OwnIs, WorkState}
use Rattle.node_core.proofs.Parts.OwnChanges.{answer_is, commit_count, commit_did, commit_space, release_is}
use Rattle.node_core.proofs.Parts.PartChanges.{own_name, stored_of}
use Rattle.node_core.proofs.Parts.Showing.{keys_to, lists_apart, marked_to, same_at, stands_to, written_to}
use Rattle.partition_map.specs.declared.rows.Asked.{Asked}
use Rattle.str_base.specs.declared.names.TxId.{TxId}
use Rattle.str_model.specs.Acts.{committed, decided_versions}
use Rattle.str_model.specs.declared.messages.Outcome.TheVariants.{Committed as Commits}
use Rattle.str_model.specs.Scripts.{at_own}
use Rattle.str_model.specs.Views.{Own, is_decided, lc_of}
use Rattle.version_chain.specs.ChainLists.{merged}
use Rattle.node_core.proofs.work.Work.commit.Goals as goal

pub at-x-requires : goal.at-x-requires
at-x-requires c =
    let o = subst (OwnIs (λ x. (is_decided x.phase ≡ false) × (lc_of x.phase ≡ Some c.args.lc.0)) c.args.i) (sym c.self.view_is) c.requires.own in
    slice_get_within _ c.args.i o.0 o.1

pub send_commits-requires-clause-keys : goal.send_commits-requires-clause-keys
send_commits-requires-clause-keys c =
    let f = subst HasFacts (sym c.self.view_is) c.requires.facts in
    let s = stored_of c.self.inside.site c.self.inside.held c.self.inside.own c.self.inside.left c.self.inside.room c.self.invariant f.moment c.node.ensures.kept in
    let o = subst (OwnIs (λ x. (is_decided x.phase ≡ false) × (lc_of x.phase ≡ Some c.args.lc.0)) c.args.i) (sym c.self.view_is) c.requires.own in
    let y = same_at _ c.args.i _ _ c.at-x.ensures.own o.1 in
    let ws = c.writes.ensures ∙ ap (λ (z : Own). z.writes) y in
    keys_to c.self.inside.site (view_of c.self.inside.held c.self.inside.own.all) c.self.inside.held.store c.self.inside.held.cache s c.self.inside.site.node refl _ refl c.args.i o.0 c.writes.result.now o.1 ws

pub send_commits-requires-clause-marked : goal.send_commits-requires-clause-marked
send_commits-requires-clause-marked c =
    let f = subst HasFacts (sym c.self.view_is) c.requires.facts in
    let s = stored_of c.self.inside.site c.self.inside.held c.self.inside.own c.self.inside.left c.self.inside.room c.self.invariant f.moment c.node.ensures.kept in
    let o = subst (OwnIs (λ x. (is_decided x.phase ≡ false) × (lc_of x.phase ≡ Some c.args.lc.0)) c.args.i) (sym c.self.view_is) c.requires.own in
    let y = same_at _ c.args.i _ _ c.at-x.ensures.own o.1 in
    let ws = c.writes.ensures ∙ ap (λ (z : Own). z.writes) y in
    marked_to c.self.inside.site (view_of c.self.inside.held c.self.inside.own.all) c.self.inside.held.store c.self.inside.held.cache s c.self.inside.site.node refl _ refl c.args.i o.0 c.writes.result.now o.1 ws

pub send_commits-requires-clause-space : goal.send_commits-requires-clause-space
send_commits-requires-clause-space c =
    let o = subst (OwnIs (λ x. (is_decided x.phase ≡ false) × (lc_of x.phase ≡ Some c.args.lc.0)) c.args.i) (sym c.self.view_is) c.requires.own in
    let y = same_at _ c.args.i _ _ c.at-x.ensures.own o.1 in
    let ps = c.parts.ensures ∙ ap (λ (z : Own). z.parts) y in
    let g = subst (λ (w : WorkState). Fits w (at_own c.args.i (committed w.here c.args.i c.args.lc.0 c.args.fc.0) w.doing)) (sym c.self.view_is) c.requires.fits in
    let l = commit_space c.self.inside.site c.self.inside.held c.self.inside.own c.self.inside.own c.self.inside.out c.self.inside.left c.self.inside.room c.args.i o.0 o.1 o.2.0 c.args.lc.0 c.args.fc.0 g in
    let q = ap (λ (z : List Asked). length z) ps in omega (arith, l, q)

pub commit_all-requires-clause-keys : goal.commit_all-requires-clause-keys
commit_all-requires-clause-keys c =
    let f = subst HasFacts (sym c.self.view_is) c.requires.facts in
    let s = stored_of c.self.inside.site c.self.inside.held c.self.inside.own c.self.inside.left c.self.inside.room c.self.invariant f.moment c.node.ensures.kept in
    let o = subst (OwnIs (λ x. (is_decided x.phase ≡ false) × (lc_of x.phase ≡ Some c.args.lc.0)) c.args.i) (sym c.self.view_is) c.requires.own in
    let y = same_at _ c.args.i _ _ c.at-x.ensures.own o.1 in
    keys_to c.self.inside.site (view_of c.self.inside.held c.self.inside.own.all) c.self.inside.held.store c.self.inside.held.cache s c.self.inside.site.node refl _ refl c.args.i o.0 c.writes-2.result.now o.1 (c.writes-2.ensures ∙ ap (λ (z : Own). z.writes) y)

pub commit_all-requires-clause-here : goal.commit_all-requires-clause-here
commit_all-requires-clause-here c =
    let f = subst HasFacts (sym c.self.view_is) c.requires.facts in
    let s = stored_of c.self.inside.site c.self.inside.held c.self.inside.own c.self.inside.left c.self.inside.room c.self.invariant f.moment c.node.ensures.kept in
    stands_to c.self.inside.site (view_of c.self.inside.held c.self.inside.own.all) c.self.inside.held.store c.self.inside.held.cache s c.self.inside.site.node refl _ refl

pub commit_all-requires-clause-stored : goal.commit_all-requires-clause-stored
commit_all-requires-clause-stored c =
    let f = subst HasFacts (sym c.self.view_is) c.requires.facts in
    let s = stored_of c.self.inside.site c.self.inside.held c.self.inside.own c.self.inside.left c.self.inside.room c.self.invariant f.moment c.node.ensures.kept in
    let o = subst (OwnIs (λ x. (is_decided x.phase ≡ false) × (lc_of x.phase ≡ Some c.args.lc.0)) c.args.i) (sym c.self.view_is) c.requires.own in
    let y = same_at _ c.args.i _ _ c.at-x.ensures.own o.1 in
    let t = own_name c.self.inside.site c.self.inside.own c.args.i c.tx-tx.result _ c.tx-tx.ensures c.at-x.ensures.tx c.self.invariant.own_node in
    (written_to c.self.inside.site (view_of c.self.inside.held c.self.inside.own.all) c.self.inside.held.store c.self.inside.held.cache s c.self.inside.site.node refl _ refl c.args.i o.0 c.writes-2.result.now c.tx-tx.result o.1 (c.writes-2.ensures ∙ ap (λ (z : Own). z.writes) y) t).0

pub commit_all-requires-clause-cached : goal.commit_all-requires-clause-cached
commit_all-requires-clause-cached c =
    let f = subst HasFacts (sym c.self.view_is) c.requires.facts in
    let s = stored_of c.self.inside.site c.self.inside.held c.self.inside.own c.self.inside.left c.self.inside.room c.self.invariant f.moment c.node.ensures.kept in
    let o = subst (OwnIs (λ x. (is_decided x.phase ≡ false) × (lc_of x.phase ≡ Some c.args.lc.0)) c.args.i) (sym c.self.view_is) c.requires.own in
    let y = same_at _ c.args.i _ _ c.at-x.ensures.own o.1 in
    let t = own_name c.self.inside.site c.self.inside.own c.args.i c.tx-tx.result _ c.tx-tx.ensures c.at-x.ensures.tx c.self.invariant.own_node in
    (written_to c.self.inside.site (view_of c.self.inside.held c.self.inside.own.all) c.self.inside.held.store c.self.inside.held.cache s c.self.inside.site.node refl _ refl c.args.i o.0 c.writes-2.result.now c.tx-tx.result o.1 (c.writes-2.ensures ∙ ap (λ (z : Own). z.writes) y) t).1

pub release-requires : goal.release-requires
release-requires c =
    let o = subst (OwnIs (λ x. (is_decided x.phase ≡ false) × (lc_of x.phase ≡ Some c.args.lc.0)) c.args.i) (sym c.self.view_is) c.requires.own in
    let y = same_at _ c.args.i _ _ c.at-x.ensures.own o.1 in
    let t = own_name c.self.inside.site c.self.inside.own c.args.i c.tx-tx.result _ c.tx-tx.ensures c.at-x.ensures.tx c.self.invariant.own_node in
    let ws = c.writes.ensures ∙ ap (λ (z : Own). z.writes) y in
    let ps = c.parts.ensures ∙ ap (λ (z : Own). z.parts) y in
    let g = subst (λ (w : WorkState). Fits w (at_own c.args.i (committed w.here c.args.i c.args.lc.0 c.args.fc.0) w.doing)) (sym c.self.view_is) c.requires.fits in
    let l = commit_space c.self.inside.site c.self.inside.held c.self.inside.own c.self.inside.own c.self.inside.out c.self.inside.left c.self.inside.room c.args.i o.0 o.1 o.2.0 c.args.lc.0 c.args.fc.0 g in
    let m = commit_count c.self.inside.site c.args.i o.0 c.args.fc.0 (view_of c.self.inside.held c.self.inside.own.all) in
    let k = (c.send_commits.ensures c.args.i o.0 (view_of c.self.inside.held c.self.inside.own.all) t (sym ps) (sym ws) refl).space in
    omega (arith, l, m, k)

pub commit-answer-requires : goal.commit-answer-requires
commit-answer-requires c = let o = subst (OwnIs (λ x. (is_decided x.phase ≡ false) × (lc_of x.phase ≡ Some c.args.lc.0)) c.args.i) (sym c.self.view_is) c.requires.own in (o.0, o.1, o.2.0)

pub returns : goal.returns
returns c =
    let f = subst HasFacts (sym c.self.view_is) c.requires.facts in
    let s = stored_of c.self.inside.site c.self.inside.held c.self.inside.own c.self.inside.left c.self.inside.room c.self.invariant f.moment c.node.ensures.kept in
    let o = subst (OwnIs (λ x. (is_decided x.phase ≡ false) × (lc_of x.phase ≡ Some c.args.lc.0)) c.args.i) (sym c.self.view_is) c.requires.own in
    let y = same_at _ c.args.i _ _ c.at-x.ensures.own o.1 in
    let t = own_name c.self.inside.site c.self.inside.own c.args.i c.tx-tx.result _ c.tx-tx.ensures c.at-x.ensures.tx c.self.invariant.own_node in
    let ws = c.writes.ensures ∙ ap (λ (z : Own). z.writes) y in
    let ps = c.parts.ensures ∙ ap (λ (z : Own). z.parts) y in
    let l = c.send_commits.ensures c.args.i o.0 (view_of c.self.inside.held c.self.inside.own.all) t (sym ps) (sym ws) refl in
    rw (← c.self.view_is)
    (commit_did c.self.inside.site c.self.inside.held c.self.inside.own c.commit-answer.new.self c.self.inside.out c.self.inside.left c.self.inside.room c.args.i o.0 o.1 o.2.0 c.commit_all.new.store c.commit_all.new.cache _ c.send_commits.new.out c.release.new.self c.args.lc.0 c.args.fc.0 o.2.1
    (c.commit_all.ensures.merged (lists_apart c.self.inside.site (view_of c.self.inside.held c.self.inside.own.all) c.self.inside.held.store c.self.inside.held.cache s)
    ∙ ap (λ (z : TxId). decided_versions c.self.inside.site z c.args.fc.0 (merged c.self.inside.held.cache.versions c.self.inside.held.store.versions)) t)
    (search rules)
    l
    (release_is _ _ _ _ (answer_is c.self.inside.site c.self.inside.own c.args.i o.0 (Commits (Some c.args.fc) o.0.gets) c.commit-answer.result c.self.invariant.own_node (c.commit-answer.ensures.answer o.0 o.1)) c.release.ensures.released c.release.ensures.stays c.release.ensures.space)
    (ap (λ q. q.all) (c.commit-answer.ensures.own o.0 o.1)))

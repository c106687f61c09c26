use Rattle.std.proofs.Common.{List, ap, refl, subst, sym, ◌+◌, ◌∙◌}
use Rattle.std.proofs.lemmas.Option.{slice_get_within}
use Rattle.dependency_set.specs.Snapshots.{Snap}
use Rattle.node_parts.specs.Holding.{view_of}
use Rattle.node_parts.specs.Owning.{IsFree}
use Rattle.node_core.specs.Working.{HasFacts, OwnIs, WorkState}
use Rattle.node_core.proofs.Parts.PartChanges.{stored_of}
use Rattle.node_core.proofs.Parts.Showing.{keys_to, marked_to, may_to, same_at, shows_to, stands_to, times_to}
use Rattle.str_base.specs.declared.names.Write.{Write}
use Rattle.str_model.specs.NodeFacts.{OpenTo}
use Rattle.str_model.specs.Turns.{cert_turn}
use Rattle.str_model.specs.Views.{Own}
use Rattle.node_core.proofs.work.Work.cert_turn.Goals as goal

pub at-x-requires : goal.at-x-requires
at-x-requires c =
    let o = subst (OwnIs IsFree c.args.i) (sym c.self.view_is) c.requires.own in
    slice_get_within _ c.args.i o.0 o.1

pub certify-requires-clause-keys : goal.certify-requires-clause-keys
certify-requires-clause-keys c =
    let f = subst HasFacts (sym c.self.view_is) c.requires.facts in
    let s = stored_of c.self.inside.site c.self.inside.held c.self.inside.own c.self.inside.left c.self.inside.room c.self.invariant f.moment c.node.ensures.kept in
    let n = c.node.ensures.value ∙ c.self.invariant.stands.store_here in
    let o = subst (OwnIs IsFree c.args.i) (sym c.self.view_is) c.requires.own in
    let e = c.writes.ensures ∙ ap (λ (z : Own). z.writes) (same_at _ c.args.i _ _ c.at-x.ensures.own o.1) in
    keys_to c.self.inside.site (view_of c.self.inside.held c.self.inside.own.all) c.self.inside.held.store c.self.inside.held.cache s c.node.result n c.map.result.now c.map.ensures.value c.args.i o.0 c.writes.result.now o.1 e

pub certify-requires-clause-marked : goal.certify-requires-clause-marked
certify-requires-clause-marked c =
    let f = subst HasFacts (sym c.self.view_is) c.requires.facts in
    let s = stored_of c.self.inside.site c.self.inside.held c.self.inside.own c.self.inside.left c.self.inside.room c.self.invariant f.moment c.node.ensures.kept in
    let n = c.node.ensures.value ∙ c.self.invariant.stands.store_here in
    let o = subst (OwnIs IsFree c.args.i) (sym c.self.view_is) c.requires.own in
    let e = c.writes.ensures ∙ ap (λ (z : Own). z.writes) (same_at _ c.args.i _ _ c.at-x.ensures.own o.1) in
    marked_to c.self.inside.site (view_of c.self.inside.held c.self.inside.own.all) c.self.inside.held.store c.self.inside.held.cache s c.node.result n c.map.result.now c.map.ensures.value c.args.i o.0 c.writes.result.now o.1 e

pub certify-requires-clause-times : goal.certify-requires-clause-times
certify-requires-clause-times c =
    let f = subst HasFacts (sym c.self.view_is) c.requires.facts in
    let s = stored_of c.self.inside.site c.self.inside.held c.self.inside.own c.self.inside.left c.self.inside.room c.self.invariant f.moment c.node.ensures.kept in
    let o = subst (OwnIs IsFree c.args.i) (sym c.self.view_is) c.requires.own in
    let e = c.snap.ensures ∙ ap (λ (z : Own). z.snap) (same_at _ c.args.i _ _ c.at-x.ensures.own o.1) in
    times_to c.self.inside.site (view_of c.self.inside.held c.self.inside.own.all) c.self.inside.held.store c.self.inside.held.cache s c.args.i o.0 c.snap.result.now o.1 e

pub certify-requires-clause-few : goal.certify-requires-clause-few
certify-requires-clause-few c =
    let f = subst HasFacts (sym c.self.view_is) c.requires.facts in
    let s = stored_of c.self.inside.site c.self.inside.held c.self.inside.own c.self.inside.left c.self.inside.room c.self.invariant f.moment c.node.ensures.kept in
    let o = subst (OwnIs IsFree c.args.i) (sym c.self.view_is) c.requires.own in
    let open_ = subst (λ (w : WorkState). OpenTo w.doing.view (c.args.i + 1)) (sym c.self.view_is) c.requires.open_ in
    let e = c.snap.ensures ∙ ap (λ (z : Own). z.snap) (same_at _ c.args.i _ _ c.at-x.ensures.own o.1) in
    (may_to c.self.inside.site (view_of c.self.inside.held c.self.inside.own.all) c.self.inside.held.store c.self.inside.held.cache s c.told.result.now c.told.ensures c.args.i o.0 c.snap.result.now o.1 o.2.0 o.2.1 open_ e).few

pub certify-requires-clause-deps : goal.certify-requires-clause-deps
certify-requires-clause-deps c =
    let f = subst HasFacts (sym c.self.view_is) c.requires.facts in
    let s = stored_of c.self.inside.site c.self.inside.held c.self.inside.own c.self.inside.left c.self.inside.room c.self.invariant f.moment c.node.ensures.kept in
    let o = subst (OwnIs IsFree c.args.i) (sym c.self.view_is) c.requires.own in
    let open_ = subst (λ (w : WorkState). OpenTo w.doing.view (c.args.i + 1)) (sym c.self.view_is) c.requires.open_ in
    let e = c.snap.ensures ∙ ap (λ (z : Own). z.snap) (same_at _ c.args.i _ _ c.at-x.ensures.own o.1) in
    (may_to c.self.inside.site (view_of c.self.inside.held c.self.inside.own.all) c.self.inside.held.store c.self.inside.held.cache s c.told.result.now c.told.ensures c.args.i o.0 c.snap.result.now o.1 o.2.0 o.2.1 open_ e).deps

pub certify-requires-clause-told : goal.certify-requires-clause-told
certify-requires-clause-told c =
    let f = subst HasFacts (sym c.self.view_is) c.requires.facts in
    let s = stored_of c.self.inside.site c.self.inside.held c.self.inside.own c.self.inside.left c.self.inside.room c.self.invariant f.moment c.node.ensures.kept in
    let o = subst (OwnIs IsFree c.args.i) (sym c.self.view_is) c.requires.own in
    let open_ = subst (λ (w : WorkState). OpenTo w.doing.view (c.args.i + 1)) (sym c.self.view_is) c.requires.open_ in
    let e = c.snap.ensures ∙ ap (λ (z : Own). z.snap) (same_at _ c.args.i _ _ c.at-x.ensures.own o.1) in
    (may_to c.self.inside.site (view_of c.self.inside.held c.self.inside.own.all) c.self.inside.held.store c.self.inside.held.cache s c.told.result.now c.told.ensures c.args.i o.0 c.snap.result.now o.1 o.2.0 o.2.1 open_ e).told

pub certify-requires-clause-here : goal.certify-requires-clause-here
certify-requires-clause-here c =
    let f = subst HasFacts (sym c.self.view_is) c.requires.facts in
    let s = stored_of c.self.inside.site c.self.inside.held c.self.inside.own c.self.inside.left c.self.inside.room c.self.invariant f.moment c.node.ensures.kept in
    let n = c.node.ensures.value ∙ c.self.invariant.stands.store_here in
    stands_to c.self.inside.site (view_of c.self.inside.held c.self.inside.own.all) c.self.inside.held.store c.self.inside.held.cache s c.node.result n c.map.result.now c.map.ensures.value

pub returns : goal.returns
returns c =
    let f = subst HasFacts (sym c.self.view_is) c.requires.facts in
    let s = stored_of c.self.inside.site c.self.inside.held c.self.inside.own c.self.inside.left c.self.inside.room c.self.invariant f.moment c.node.ensures.kept in
    let n = c.node.ensures.value ∙ c.self.invariant.stands.store_here in
    rw (← c.self.view_is)
    (λ x own.
    let y = same_at _ c.args.i _ _ c.at-x.ensures.own own in
    let e = c.snap.ensures ∙ ap (λ (z : Own). z.snap) y in
    let w = c.writes.ensures ∙ ap (λ (z : Own). z.writes) y in
    c.certify.ensures.turn c.self.inside.site (view_of c.self.inside.held c.self.inside.own.all) (shows_to c.self.inside.site (view_of c.self.inside.held c.self.inside.own.all) c.self.inside.held.store c.self.inside.held.cache s c.node.result n c.map.result.now c.map.ensures.value c.told.result.now c.told.ensures) refl
    ∙ (ap (λ (z : Snap). cert_turn c.self.inside.site (view_of c.self.inside.held c.self.inside.own.all) z c.writes.result.now) e
    ∙ ap (λ (z : List Write). cert_turn c.self.inside.site (view_of c.self.inside.held c.self.inside.own.all) x.snap z) w))

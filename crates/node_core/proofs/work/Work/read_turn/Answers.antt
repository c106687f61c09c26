use Rattle.std.proofs.Common.{ap, subst, sym, ◌+◌, ◌∙◌}
use Rattle.std.proofs.lemmas.Option.{slice_get_within}
use Rattle.dependency_set.specs.Snapshots.{Snap}
use Rattle.node_parts.specs.Holding.{view_of}
use Rattle.node_parts.specs.Owning.{IsFree}
use Rattle.node_core.specs.Working.{HasFacts, OwnIs, WorkState}
use Rattle.node_core.proofs.Parts.PartChanges.{stored_of}
use Rattle.node_core.proofs.Parts.Showing.{key_there, may_to, same_at, shows_to, stands_to}
use Rattle.str_model.specs.NodeFacts.{OpenTo}
use Rattle.str_model.specs.Strange.{has_key}
use Rattle.str_model.specs.Turns.{read_turn}
use Rattle.str_model.specs.Views.{Own}
use Rattle.partition_map.specs.Maps.{HasKey}
use Rattle.std.specs.Prelude.{true, ◌≡◌}
use Rattle.node_core.proofs.work.Work.read_turn.Goals as goal

pub at-x-requires : goal.at-x-requires
at-x-requires c =
    let o = subst (OwnIs IsFree c.args.i) (sym c.self.view_is) c.requires.own in
    slice_get_within _ c.args.i o.0 o.1

pub try_read-requires-clause-key : goal.try_read-requires-clause-key
try_read-requires-clause-key c =
    let k = subst (λ (w : WorkState). has_key w.here c.args.key ≡ true) (sym c.self.view_is) c.requires.key in
    subst (λ z. HasKey z c.args.key) c.map.ensures.value (key_there c.self.inside.site c.args.key k)

pub try_read-requires-clause-few : goal.try_read-requires-clause-few
try_read-requires-clause-few c =
    let f = subst HasFacts (sym c.self.view_is) c.requires.facts in
    let s = stored_of c.self.inside.site c.self.inside.held c.self.inside.own c.self.inside.left c.self.inside.room c.self.invariant f.moment c.node.ensures.kept in
    let o = subst (OwnIs IsFree c.args.i) (sym c.self.view_is) c.requires.own in
    let open_ = subst (λ (w : WorkState). OpenTo w.doing.view (c.args.i + 1)) (sym c.self.view_is) c.requires.open_ in
    let e = c.snap.ensures ∙ ap (λ (z : Own). z.snap) (same_at _ c.args.i _ _ c.at-x.ensures.own o.1) in
    (may_to c.self.inside.site (view_of c.self.inside.held c.self.inside.own.all) c.self.inside.held.store c.self.inside.held.cache s c.told.result.now c.told.ensures c.args.i o.0 c.snap.result.now o.1 o.2.0 o.2.1 open_ e).few

pub try_read-requires-clause-deps : goal.try_read-requires-clause-deps
try_read-requires-clause-deps c =
    let f = subst HasFacts (sym c.self.view_is) c.requires.facts in
    let s = stored_of c.self.inside.site c.self.inside.held c.self.inside.own c.self.inside.left c.self.inside.room c.self.invariant f.moment c.node.ensures.kept in
    let o = subst (OwnIs IsFree c.args.i) (sym c.self.view_is) c.requires.own in
    let open_ = subst (λ (w : WorkState). OpenTo w.doing.view (c.args.i + 1)) (sym c.self.view_is) c.requires.open_ in
    let e = c.snap.ensures ∙ ap (λ (z : Own). z.snap) (same_at _ c.args.i _ _ c.at-x.ensures.own o.1) in
    (may_to c.self.inside.site (view_of c.self.inside.held c.self.inside.own.all) c.self.inside.held.store c.self.inside.held.cache s c.told.result.now c.told.ensures c.args.i o.0 c.snap.result.now o.1 o.2.0 o.2.1 open_ e).deps

pub try_read-requires-clause-told : goal.try_read-requires-clause-told
try_read-requires-clause-told c =
    let f = subst HasFacts (sym c.self.view_is) c.requires.facts in
    let s = stored_of c.self.inside.site c.self.inside.held c.self.inside.own c.self.inside.left c.self.inside.room c.self.invariant f.moment c.node.ensures.kept in
    let o = subst (OwnIs IsFree c.args.i) (sym c.self.view_is) c.requires.own in
    let open_ = subst (λ (w : WorkState). OpenTo w.doing.view (c.args.i + 1)) (sym c.self.view_is) c.requires.open_ in
    let e = c.snap.ensures ∙ ap (λ (z : Own). z.snap) (same_at _ c.args.i _ _ c.at-x.ensures.own o.1) in
    (may_to c.self.inside.site (view_of c.self.inside.held c.self.inside.own.all) c.self.inside.held.store c.self.inside.held.cache s c.told.result.now c.told.ensures c.args.i o.0 c.snap.result.now o.1 o.2.0 o.2.1 open_ e).told

pub try_read-requires-clause-here : goal.try_read-requires-clause-here
try_read-requires-clause-here c =
    let f = subst HasFacts (sym c.self.view_is) c.requires.facts in
    let s = stored_of c.self.inside.site c.self.inside.held c.self.inside.own c.self.inside.left c.self.inside.room c.self.invariant f.moment c.node.ensures.kept in
    let n = c.node.ensures.value ∙ c.self.invariant.stands.store_here in
    stands_to c.self.inside.site (view_of c.self.inside.held c.self.inside.own.all) c.self.inside.held.store c.self.inside.held.cache s c.node.result n c.map.result.now c.map.ensures.value

pub returns : goal.returns
returns c =
    let f = subst HasFacts (sym c.self.view_is) c.requires.facts in
    let s = stored_of c.self.inside.site c.self.inside.held c.self.inside.own c.self.inside.left c.self.inside.room c.self.invariant f.moment c.node.ensures.kept in
    let n = c.node.ensures.value ∙ c.self.invariant.stands.store_here in
    rw (← c.self.view_is)
    (λ x own.
    let e = c.snap.ensures ∙ ap (λ (z : Own). z.snap) (same_at _ c.args.i _ _ c.at-x.ensures.own own) in
    c.try_read.ensures.turn c.self.inside.site (view_of c.self.inside.held c.self.inside.own.all) (shows_to c.self.inside.site (view_of c.self.inside.held c.self.inside.own.all) c.self.inside.held.store c.self.inside.held.cache s c.node.result n c.map.result.now c.map.ensures.value c.told.result.now c.told.ensures)
    ∙ ap (λ (z : Snap). read_turn c.self.inside.site (view_of c.self.inside.held c.self.inside.own.all) z c.args.key) e)

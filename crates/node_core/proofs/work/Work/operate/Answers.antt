use Rattle.std.proofs.Common.{List, ap, slice_set, subst, sym, ◌-◌, ◌∙◌}
use Rattle.std.proofs.lemmas.Option.{slice_get_within}
use Rattle.node_parts.specs.Owning.{HasPlace, OwnState, turned}
use Rattle.node_core.proofs.Parts.PartChanges.{put_did, work_own}
use Rattle.node_core.proofs.Parts.Showing.{same_at}
use Rattle.node_core.specs.Reading.{CanTurn}
use Rattle.node_core.specs.Working.{OwnIs, WorkState}
use Rattle.str_model.specs.NodeFacts.{PlacedIn}
use Rattle.str_model.specs.Views.{Own}
use Rattle.str_scene.specs.declared.names.Op.{Op}
use Rattle.str_scene.specs.declared.names.TxPlace.{TxPlace}
use Rattle.str_scene.specs.Scenes.{script_at}
use Rattle.tx_script.specs.Doing.{run_of}
use Rattle.tx_script.specs.Turns.{turn_of}
use Rattle.node_core.proofs.work.Work.operate.Goals as goal

pub at-requires : goal.at-requires
at-requires c =
    let o = subst (λ (w : WorkState). OwnIs (CanTurn w.here) c.args.i w) (sym c.self.view_is) c.requires in
    slice_get_within _ c.args.i o.0 o.1

pub script-ops-requires : goal.script-ops-requires
script-ops-requires c =
    let o = subst (λ (w : WorkState). OwnIs (CanTurn w.here) c.args.i w) (sym c.self.view_is) c.requires in
    let y = same_at _ c.args.i _ _ c.at.ensures.own o.1 in
    let p = c.place.ensures ∙ ap (λ (z : Own). z.place) y in
    subst (λ (z : TxPlace). PlacedIn c.self.inside.site.scene (c.self.inside.site.node.0 - 1) z) (sym p) o.2.placed

pub operate-requires : goal.operate-requires
operate-requires c =
    let o = subst (λ (w : WorkState). OwnIs (CanTurn w.here) c.args.i w) (sym c.self.view_is) c.requires in
    let y = same_at _ c.args.i _ _ c.at.ensures.own o.1 in
    let p = c.place.ensures ∙ ap (λ (z : Own). z.place) y in
    let q = c.script-ops.ensures ∙ ap (λ (z : TxPlace). script_at c.self.inside.site.scene z) p in
    (o.0, o.1, (o.2.free, subst (λ (z : List Op). HasPlace z o.0) (sym q) o.2.place))

pub invariant_of-self : goal.invariant_of-self
invariant_of-self c =
    let o = subst (λ (w : WorkState). OwnIs (CanTurn w.here) c.args.i w) (sym c.self.view_is) c.requires in
    work_own c.self.inside.site c.self.inside.held c.self.inside.own c.operate.new.self c.self.inside.left c.self.inside.room c.args.i _ c.self.invariant (c.operate.ensures.own o.0 o.1)

pub returns-clause-turn : goal.returns-clause-turn
returns-clause-turn c =
    rw (← c.self.view_is)
    (λ x e.
    c.operate.ensures.turn x e
    ∙ ap (λ (z : List Op). (turn_of z (run_of x)).turn) (c.script-ops.ensures ∙ ap (λ (z : TxPlace). script_at c.self.inside.site.scene z) (c.place.ensures ∙ ap (λ (z : Own). z.place) (same_at _ c.args.i _ _ c.at.ensures.own e))))

pub returns-clause-done : goal.returns-clause-done
returns-clause-done c =
    let o = subst (λ (w : WorkState). OwnIs (CanTurn w.here) c.args.i w) (sym c.self.view_is) c.requires in
    let y = same_at _ c.args.i _ _ c.at.ensures.own o.1 in
    let p = c.place.ensures ∙ ap (λ (z : Own). z.place) y in
    let q = c.script-ops.ensures ∙ ap (λ (z : TxPlace). script_at c.self.inside.site.scene z) p in
    rw (← c.self.view_is)
    (put_did c.self.inside.site c.self.inside.held c.self.inside.own c.operate.new.self c.self.inside.out c.self.inside.left c.self.inside.room c.args.i (λ x. turned (turn_of (script_at c.self.inside.site.scene x.place) (run_of x)) x) o.0 o.1 o.2.free.0
    (ap (λ (z : OwnState). z.all) (c.operate.ensures.own o.0 o.1) ∙ ap (λ (z : List Op). slice_set c.self.inside.own.all c.args.i (turned (turn_of z (run_of o.0)) o.0)) q))

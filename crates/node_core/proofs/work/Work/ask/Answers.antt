use Rattle.std.proofs.Common.{List, Some, ap, arith, false, slice_get, subst, sym, true, ◌∙◌, ◌≡◌}
use Rattle.std.proofs.lemmas.Option.{slice_get_within}
use Rattle.dependency_set.specs.Snapshots.{Snap}
use Rattle.local_certify.proofs.FromFacts.{keys_there}
use Rattle.node_parts.specs.Holding.{view_of}
use Rattle.node_parts.specs.Owning.{OwnState}
use Rattle.node_core.specs.Working.{Fits, HasFacts, OwnIs, WorkState}
use Rattle.node_core.proofs.Parts.OwnChanges.{letters_same}
use Rattle.node_core.proofs.Parts.PartChanges.{ask_did, ask_space, own_name, work_own}
use Rattle.node_core.proofs.Parts.Showing.{part_there, same_at}
use Rattle.str_base.specs.declared.names.Write.{Write}
use Rattle.str_base.specs.Versions.{stamp}
use Rattle.str_model.specs.Acts.{asked}
use Rattle.str_model.specs.Scripts.{at_own}
use Rattle.str_model.specs.Strange.{has_part}
use Rattle.str_model.specs.Views.{Own, is_decided, lc_of}
use Rattle.str_scene.specs.Scenes.{replicas}
use Rattle.node_core.proofs.work.Work.ask.Goals as goal

pub at-x-requires : goal.at-x-requires
at-x-requires c =
    let o = subst (OwnIs (λ x. (is_decided x.phase ≡ false) × (lc_of x.phase ≡ Some c.args.lc.0)) c.args.i) (sym c.self.view_is) c.requires.own in
    slice_get_within _ c.args.i o.0 o.1

pub send_asks-requires-clause-part : goal.send_asks-requires-clause-part
send_asks-requires-clause-part c =
    let k = subst (λ (w : WorkState). has_part w.here c.args.part ≡ true) (sym c.self.view_is) c.requires.part in
    part_there c.self.inside.site c.args.part k

pub send_asks-requires-clause-keys : goal.send_asks-requires-clause-keys
send_asks-requires-clause-keys c k w e =
    let o = subst (OwnIs (λ x. (is_decided x.phase ≡ false) × (lc_of x.phase ≡ Some c.args.lc.0)) c.args.i) (sym c.self.view_is) c.requires.own in
    let y = same_at _ c.args.i _ _ c.at-x.ensures.own o.1 in
    let ws = c.writes.ensures ∙ ap (λ (z : Own). z.writes) y in
    let f = subst HasFacts (sym c.self.view_is) c.requires.facts in
    keys_there c.self.inside.site f.limits f.exists (view_of c.self.inside.held c.self.inside.own.all) f.moment c.args.i o.0 o.1 k w (ap (λ (z : List Write). slice_get z k) (sym ws) ∙ e)

pub send_asks-requires-clause-space : goal.send_asks-requires-clause-space
send_asks-requires-clause-space c j z e =
    let o = subst (OwnIs (λ x. (is_decided x.phase ≡ false) × (lc_of x.phase ≡ Some c.args.lc.0)) c.args.i) (sym c.self.view_is) c.requires.own in
    let g = subst (λ (w : WorkState). Fits w (at_own c.args.i (asked w.here c.args.i c.args.lc.0 c.args.part) w.doing)) (sym c.self.view_is) c.requires.fits in
    let l = ask_space c.self.inside.site c.self.inside.held c.self.inside.own c.self.inside.out c.self.inside.left c.self.inside.room c.args.i c.args.lc.0 c.args.part o.0 o.1 o.2.0 g in
    let q = letters_same c.self.inside.site j c.args.i c.args.lc.0 z o.0 c.args.part (replicas c.self.inside.site.scene c.args.part) in
    omega (arith, l, q)

pub ask-requires : goal.ask-requires
ask-requires c = subst (OwnIs (λ x. (is_decided x.phase ≡ false) × (lc_of x.phase ≡ Some c.args.lc.0)) c.args.i) (sym c.self.view_is) c.requires.own

pub invariant_of-self : goal.invariant_of-self
invariant_of-self c =
    let o = subst (OwnIs (λ x. (is_decided x.phase ≡ false) × (lc_of x.phase ≡ Some c.args.lc.0)) c.args.i) (sym c.self.view_is) c.requires.own in
    work_own c.self.inside.site c.self.inside.held c.self.inside.own c.ask.new.self c.self.inside.left c.self.inside.room c.args.i _ c.self.invariant (c.ask.ensures o.0 o.1)

pub returns : goal.returns
returns c =
    let o = subst (OwnIs (λ x. (is_decided x.phase ≡ false) × (lc_of x.phase ≡ Some c.args.lc.0)) c.args.i) (sym c.self.view_is) c.requires.own in
    let y = same_at _ c.args.i _ _ c.at-x.ensures.own o.1 in
    let ws = c.writes.ensures ∙ ap (λ (z : Own). z.writes) y in
    let t = own_name c.self.inside.site c.self.inside.own c.args.i c.tx.result _ c.tx.ensures c.at-x.ensures.tx c.self.invariant.own_node in
    let r = c.rs.ensures ∙ ap (λ (z : Snap). stamp z.rs) (c.snap.ensures ∙ ap (λ (z : Own). z.snap) y) in
    rw (← c.self.view_is)
    (ask_did c.self.inside.site c.self.inside.held c.self.inside.own c.ask.new.self c.self.inside.out c.send_asks.new.out c.self.inside.left c.self.inside.room c.args.i c.args.lc.0 c.args.part o.0 o.1 o.2.0 (c.send_asks.ensures c.args.i o.0 t (sym r) (sym ws)) (ap (λ (z : OwnState). z.all) (c.ask.ensures o.0 o.1)))

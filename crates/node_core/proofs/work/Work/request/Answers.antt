use Rattle.std.proofs.Common.{[], ap, subst, sym, ◌∙◌, ◌∷◌}
use Rattle.dependency_set.specs.Snapshots.{Snap}
use Rattle.node_parts.specs.Letters.{Sends}
use Rattle.node_core.proofs.Parts.Showing.{same_at}
use Rattle.str_base.specs.declared.names.Ts.{Ts}
use Rattle.str_base.specs.declared.names.TxId.{TxId}
use Rattle.str_base.specs.Versions.{stamp}
use Rattle.str_model.specs.declared.messages.Body.TheVariants.{ReadReq}
use Rattle.str_model.specs.Views.{Own, letter}
use Rattle.node_parts.specs.Owning.{IsFree, OwnState}
use Rattle.node_core.specs.Working.{Fits, OwnIs, WorkState}
use Rattle.node_core.proofs.Parts.PartChanges.{own_name, request_did, request_space, work_own}
use Rattle.str_model.specs.Acts.{requested}
use Rattle.str_model.specs.Scripts.{at_own}
use Rattle.node_core.proofs.work.Work.request.Goals as goal

pub send-requires : goal.send-requires
send-requires c =
    let o = subst (OwnIs IsFree c.args.i) (sym c.self.view_is) c.requires.own in
    let f = subst (λ (w : WorkState). Fits w (at_own c.args.i (requested w.here c.args.i c.args.key c.args.master) w.doing)) (sym c.self.view_is) c.requires.fits in
    request_space c.self.inside.site c.self.inside.held c.self.inside.own c.self.inside.out c.self.inside.left c.self.inside.room c.args.i c.args.key c.args.master o.0 o.1 o.2.0 f

pub set_phase-requires-clause-old : goal.set_phase-requires-clause-old
set_phase-requires-clause-old c = subst (OwnIs IsFree c.args.i) (sym c.self.view_is) c.requires.own

pub invariant_of-self : goal.invariant_of-self
invariant_of-self c =
    let o = subst (OwnIs IsFree c.args.i) (sym c.self.view_is) c.requires.own in
    work_own c.self.inside.site c.self.inside.held c.self.inside.own c.set_phase.new.self c.self.inside.left c.self.inside.room c.args.i _ c.self.invariant (c.set_phase.ensures o.0 o.1)

pub returns : goal.returns
returns c =
    let o = subst (OwnIs IsFree c.args.i) (sym c.self.view_is) c.requires.own in
    let y = same_at _ c.args.i _ _ c.at-x.ensures.own o.1 in
    let t = own_name c.self.inside.site c.self.inside.own c.args.i c.tx-tx.result _ c.tx-tx.ensures c.at-x.ensures.tx c.self.invariant.own_node in
    let r = c.rs-rs.ensures ∙ ap (λ (z : Snap). stamp z.rs) (c.snap.ensures ∙ ap (λ (z : Own). z.snap) y) in
    let l = subst (λ (z : TxId). Sends (letter c.self.inside.site c.args.master (ReadReq z c.args.key (stamp o.0.snap.rs)) ∷ []) c.self.inside.out c.send.new.out) t
    (subst (λ (z : Ts). Sends (letter c.self.inside.site c.args.master (ReadReq c.tx-tx.result c.args.key z) ∷ []) c.self.inside.out c.send.new.out) r c.send.ensures) in
    rw (← c.self.view_is)
    (request_did c.self.inside.site c.self.inside.held c.self.inside.own c.set_phase.new.self c.self.inside.out c.send.new.out c.self.inside.left c.self.inside.room c.args.i c.args.key c.args.master o.0 o.1 o.2.0 l (ap (λ (z : OwnState). z.all) (c.set_phase.ensures o.0 o.1)))

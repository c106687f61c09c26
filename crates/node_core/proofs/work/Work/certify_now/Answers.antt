use Rattle.std.proofs.Common.{ap, refl, sym, ◌∙◌}
use Rattle.local_certify.specs.Turning.{turn_of as cert_of}
use Rattle.str_base.specs.declared.names.Cause.TheVariants.{Conflict as ByConflict}
use Rattle.str_model.specs.Acts.{aborted, certified, in_phase}
use Rattle.str_model.specs.Turns.{Certified, Conflict, WaitGate}
use Rattle.str_model.specs.Views.{CertWait, put}
use Rattle.str_scene.specs.Scenes.{Here}
use Rattle.node_core.proofs.Whole.Moves.{did_as, fits_as}
use Rattle.node_core.proofs.Rules.ScriptSteps.{cert_is, cert_snap}
use Rattle.node_core.proofs.work.Work.certify_now.Goals as goal

pub certify-requires-clause-own : goal.certify-requires-clause-own
certify-requires-clause-own c =
    let o = c.requires.own in
    let a = c.in-Certified in
    cert_snap c.args.self.now c.args.i o (cert_of c.cert_turn.result) (c.cert_turn.ensures o.0 o.1) a.lc.0 a.snap (ap cert_of a.is)

pub certify-requires-clause-fits : goal.certify-requires-clause-fits
certify-requires-clause-fits c =
    let o = c.requires.own in
    let a = c.in-Certified in
    fits_as c.args.self.now _ _
    (sym (cert_is c.args.self.now c.args.i o (cert_of c.cert_turn.result) (c.cert_turn.ensures o.0 o.1) (λ h x d. certified h c.args.i a.lc.0 a.snap x d) (Certified a.lc.0 a.snap) (ap cert_of a.is) refl))
    c.requires.fits

pub abort-requires-clause-fits : goal.abort-requires-clause-fits
abort-requires-clause-fits c =
    let o = c.requires.own in
    let a = c.in-Conflict in
    let node = c.id-node.ensures.value ∙ ap (λ (h : Here). h.node) c.site.ensures.value in
    fits_as c.args.self.now _ _ (sym (cert_is c.args.self.now c.args.i o (cert_of c.cert_turn.result) (c.cert_turn.ensures o.0 o.1)
    (λ h x d. aborted h c.args.i (ByConflict a.by a.key c.id-node.result) x d) (Conflict a.by a.key) (ap cert_of a.is)
    (ap (λ n. aborted c.args.self.now.here c.args.i (ByConflict a.by a.key n) o.0 c.args.self.now.doing) (sym node))))
    c.requires.fits

pub returns-in-Certified : goal.returns-in-Certified
returns-in-Certified c =
    let o = c.requires.own in
    let a = c.in-Certified in
    did_as c.args.self.now c.certify.new.self _ _
    (cert_is c.args.self.now c.args.i o (cert_of c.cert_turn.result) (c.cert_turn.ensures o.0 o.1) (λ h x d. certified h c.args.i a.lc.0 a.snap x d) (Certified a.lc.0 a.snap) (ap cert_of a.is) refl)
    c.certify.ensures

pub returns-in-Conflict : goal.returns-in-Conflict
returns-in-Conflict c =
    let o = c.requires.own in
    let a = c.in-Conflict in
    let node = c.id-node.ensures.value ∙ ap (λ (h : Here). h.node) c.site.ensures.value in
    did_as c.args.self.now c.abort.new.self _ _ (cert_is c.args.self.now c.args.i o (cert_of c.cert_turn.result) (c.cert_turn.ensures o.0 o.1)
    (λ h x d. aborted h c.args.i (ByConflict a.by a.key c.id-node.result) x d) (Conflict a.by a.key) (ap cert_of a.is)
    (ap (λ n. aborted c.args.self.now.here c.args.i (ByConflict a.by a.key n) o.0 c.args.self.now.doing) (sym node)))
    c.abort.ensures

pub returns-in-WaitGate : goal.returns-in-WaitGate
returns-in-WaitGate c =
    let o = c.requires.own in
    let a = c.in-WaitGate in
    did_as c.args.self.now c.set_phase.new.self _ _
    (cert_is c.args.self.now c.args.i o (cert_of c.cert_turn.result) (c.cert_turn.ensures o.0 o.1) (λ h x d. put c.args.i (in_phase CertWait x) d) (WaitGate a.by) (ap cert_of a.is) refl)
    c.set_phase.ensures

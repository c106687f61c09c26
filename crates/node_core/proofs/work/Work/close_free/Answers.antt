use Rattle.std.proofs.Common.{None, ap, subst, sym}
use Rattle.node_parts.specs.Owning.{IsFree, OwnState}
use Rattle.node_core.specs.Working.{Fits, OwnIs, WorkState}
use Rattle.node_core.proofs.Parts.OwnChanges.{answer_is, close_did, close_space, release_is}
use Rattle.str_model.specs.Acts.{closed}
use Rattle.str_model.specs.declared.messages.Outcome.TheVariants.{Committed as Commits}
use Rattle.str_model.specs.Scripts.{at_own}
use Rattle.node_core.proofs.work.Work.close_free.Goals as goal

pub commit-answer-requires : goal.commit-answer-requires
commit-answer-requires c =
    let o = subst (OwnIs IsFree c.args.i) (sym c.self.view_is) c.requires.own in
    (o.0, o.1, o.2.0)

pub release-requires : goal.release-requires
release-requires c =
    let o = subst (OwnIs IsFree c.args.i) (sym c.self.view_is) c.requires.own in
    let f = subst (λ (w : WorkState). Fits w (at_own c.args.i (closed w.here c.args.i) w.doing)) (sym c.self.view_is) c.requires.fits in
    close_space c.self.inside.site c.self.inside.held c.self.inside.own c.commit-answer.new.self c.self.inside.out c.self.inside.left c.self.inside.room c.args.i o.0 o.1 o.2.0 f

pub returns : goal.returns
returns c =
    let o = subst (OwnIs IsFree c.args.i) (sym c.self.view_is) c.requires.own in
    rw (← c.self.view_is)
    (close_did c.self.inside.site c.self.inside.held c.self.inside.own c.commit-answer.new.self c.self.inside.out c.self.inside.left c.self.inside.room c.args.i o.0 o.1 o.2.0 c.release.new.self o.2.1
    (release_is _ _ _ _ (answer_is c.self.inside.site c.self.inside.own c.args.i o.0 (Commits None o.0.gets) c.commit-answer.result c.self.invariant.own_node (c.commit-answer.ensures.answer o.0 o.1)) c.release.ensures.released c.release.ensures.stays c.release.ensures.space)
    (ap (λ (z : OwnState). z.all) (c.commit-answer.ensures.own o.0 o.1)))

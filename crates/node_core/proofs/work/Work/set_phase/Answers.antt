use Rattle.std.proofs.Common.{ap, subst, sym}
use Rattle.node_parts.specs.Owning.{IsFree, OwnState}
use Rattle.node_parts.specs.Phases.{phase_of}
use Rattle.node_core.specs.Working.{OwnIs}
use Rattle.node_core.proofs.Parts.PartChanges.{put_did, work_own}
use Rattle.str_model.specs.Acts.{in_phase}
use Rattle.node_core.proofs.work.Work.set_phase.Goals as goal

pub set_phase-requires-clause-old : goal.set_phase-requires-clause-old
set_phase-requires-clause-old c = subst (OwnIs IsFree c.args.i) (sym c.self.view_is) c.requires.old

pub invariant_of-self : goal.invariant_of-self
invariant_of-self c =
    let o = subst (OwnIs IsFree c.args.i) (sym c.self.view_is) c.requires.old in
    work_own c.self.inside.site c.self.inside.held c.self.inside.own c.set_phase.new.self c.self.inside.left c.self.inside.room c.args.i _ c.self.invariant (c.set_phase.ensures o.0 o.1)

pub returns : goal.returns
returns c =
    let o = subst (OwnIs IsFree c.args.i) (sym c.self.view_is) c.requires.old in
    rw (← c.self.view_is)
    (put_did c.self.inside.site c.self.inside.held c.self.inside.own c.set_phase.new.self c.self.inside.out c.self.inside.left c.self.inside.room c.args.i (in_phase (phase_of c.args.phase)) o.0 o.1 o.2.0
    (ap (λ (q : OwnState). q.all) (c.set_phase.ensures o.0 o.1)))

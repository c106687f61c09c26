use Rattle.std.proofs.Common.{ap, length, subst, sym, ◌<◌, ◌≡◌}
use Rattle.node_parts.specs.Owning.{IsFree, OwnState}
use Rattle.node_core.specs.Working.{OwnIs}
use Rattle.node_core.proofs.Parts.PartChanges.{put_did, work_own}
use Rattle.str_model.specs.Scripts.{noted}
use Rattle.node_core.proofs.work.Work.keep_read.Goals as goal

pub keep_read-requires : goal.keep_read-requires
keep_read-requires c = subst (OwnIs (λ x. IsFree x × (length x.reads < 16) × (c.args.snap.rs ≡ x.snap.rs)) c.args.i) (sym c.self.view_is) c.requires

pub invariant_of-self : goal.invariant_of-self
invariant_of-self c =
    let o = subst (OwnIs (λ x. IsFree x × (length x.reads < 16) × (c.args.snap.rs ≡ x.snap.rs)) c.args.i) (sym c.self.view_is) c.requires in
    work_own c.self.inside.site c.self.inside.held c.self.inside.own c.keep_read.new.self c.self.inside.left c.self.inside.room c.args.i _ c.self.invariant (c.keep_read.ensures o.0 o.1)

pub returns : goal.returns
returns c =
    let o = subst (OwnIs (λ x. IsFree x × (length x.reads < 16) × (c.args.snap.rs ≡ x.snap.rs)) c.args.i) (sym c.self.view_is) c.requires in
    rw (← c.self.view_is)
    (put_did c.self.inside.site c.self.inside.held c.self.inside.own c.keep_read.new.self c.self.inside.out c.self.inside.left c.self.inside.room c.args.i (noted c.args.key c.args.value c.args.by c.args.snap) o.0 o.1 o.2.0.0
    (ap (λ (q : OwnState). q.all) (c.keep_read.ensures o.0 o.1)))

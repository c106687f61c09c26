use Rattle.std.proofs.Common.{subst, sym, arith}
use Rattle.node_core.specs.Working.{Fits, WorkState}
use Rattle.node_core.proofs.Parts.PartChanges.{begin_did, begin_left, may_come, state_of}
use Rattle.str_model.specs.Acts.{begun}
use Rattle.str_model.specs.NodeFacts.{MomentFacts}
use Rattle.node_core.proofs.work.Work.begin.Goals as goal

pub overflow_sub-self : goal.overflow_sub-self
overflow_sub-self c =
    let f = subst (λ (w : WorkState). Fits w (begun c.args.place c.args.rs.0 w.doing)) (sym c.self.view_is) c.requires.fits in
    begin_left c.self.inside.site c.self.inside.held c.self.inside.own c.self.inside.out c.self.inside.left c.self.inside.room c.args.place c.args.rs c.self.invariant.within f

pub begin-requires-clause-few : goal.begin-requires-clause-few
begin-requires-clause-few c =
    let f = subst (λ (w : WorkState). MomentFacts w.here (begun c.args.place c.args.rs.0 w.doing).view) (sym c.self.view_is) c.requires.facts in
    (may_come c.self.inside.site (state_of c.self.inside.site c.self.inside.held c.self.inside.own c.self.inside.out c.self.inside.left c.self.inside.room).doing c.args.place c.args.rs.0 c.self.invariant.limits c.self.invariant.exists f).few

pub begin-requires-clause-room : goal.begin-requires-clause-room
begin-requires-clause-room c =
    let f = subst (λ (w : WorkState). MomentFacts w.here (begun c.args.place c.args.rs.0 w.doing).view) (sym c.self.view_is) c.requires.facts in
    let few = (may_come c.self.inside.site (state_of c.self.inside.site c.self.inside.held c.self.inside.own c.self.inside.out c.self.inside.left c.self.inside.room).doing c.args.place c.args.rs.0 c.self.invariant.limits c.self.invariant.exists f).scripts in
    let own = c.self.invariant.own_room in omega (arith, few, own)

pub begin-requires-clause-open_few : goal.begin-requires-clause-open_few
begin-requires-clause-open_few c =
    let f = subst (λ (w : WorkState). MomentFacts w.here (begun c.args.place c.args.rs.0 w.doing).view) (sym c.self.view_is) c.requires.facts in
    (may_come c.self.inside.site (state_of c.self.inside.site c.self.inside.held c.self.inside.own c.self.inside.out c.self.inside.left c.self.inside.room).doing c.args.place c.args.rs.0 c.self.invariant.limits c.self.invariant.exists f).undecided

pub begin-requires-clause-session : goal.begin-requires-clause-session
begin-requires-clause-session c =
    let f = subst (λ (w : WorkState). MomentFacts w.here (begun c.args.place c.args.rs.0 w.doing).view) (sym c.self.view_is) c.requires.facts in
    let s = (may_come c.self.inside.site (state_of c.self.inside.site c.self.inside.held c.self.inside.own c.self.inside.out c.self.inside.left c.self.inside.room).doing c.args.place c.args.rs.0 c.self.invariant.limits c.self.invariant.exists f).session in
    let k = c.self.invariant.sessions in omega (arith, s, k)

pub returns : goal.returns
returns c =
    let f = subst (λ (w : WorkState). Fits w (begun c.args.place c.args.rs.0 w.doing)) (sym c.self.view_is) c.requires.fits in
    let k = begin_left c.self.inside.site c.self.inside.held c.self.inside.own c.self.inside.out c.self.inside.left c.self.inside.room c.args.place c.args.rs c.self.invariant.within f in
    rw (← c.self.view_is)
    (begin_did c.self.inside.site c.self.inside.held c.self.inside.own c.begin.new.self c.self.inside.out c.self.inside.left _ c.self.inside.room c.args.place c.args.rs c.begin.ensures.all (omega (arith, k)) c.self.invariant.within)

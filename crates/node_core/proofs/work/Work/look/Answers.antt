use Rattle.std.proofs.Common.{ap, subst, sym, arith, length, length-set}
use Rattle.node_core.specs.Working.{IsOpen}
use Rattle.node_core.proofs.Parts.PartChanges.{put_did, work_then}
use Rattle.str_model.specs.Turns.{dep_turn, left_by}
use Rattle.str_model.specs.Views.{Own}
use Rattle.node_core.proofs.work.Work.look.Goals as goal

pub look-requires : goal.look-requires
look-requires c = subst (IsOpen c.args.i) (sym c.self.view_is) c.requires

pub invariant_of-self : goal.invariant_of-self
invariant_of-self c =
    let o = subst (IsOpen c.args.i) (sym c.self.view_is) c.requires in
    let s = c.look.ensures.looked o.0 o.1 in
    let y : Own = record (o.0) { snap = left_by (dep_turn c.self.inside.own.all o.0.snap) o.0.snap } in
    work_then c.self.inside.site c.self.inside.held c.self.inside.held c.self.inside.own c.look.new.self c.self.inside.left c.self.inside.left c.self.inside.room c.self.invariant c.self.invariant.stands c.look.ensures.here.0 c.look.ensures.here.1
    (let a = ap (λ xs. length xs) s.left in let b = length-set c.self.inside.own.all c.args.i y in let d = c.look.ensures.here.2 in omega (arith, a, b, d)) c.self.invariant.has_room (omega arith)

pub returns-clause-turn : goal.returns-clause-turn
returns-clause-turn c = rw (← c.self.view_is) (λ x e. (c.look.ensures.looked x e).turn)

pub returns-clause-done : goal.returns-clause-done
returns-clause-done c =
    let o = subst (IsOpen c.args.i) (sym c.self.view_is) c.requires in
    rw (← c.self.view_is)
    (put_did c.self.inside.site c.self.inside.held c.self.inside.own c.look.new.self c.self.inside.out c.self.inside.left c.self.inside.room c.args.i
    (λ x. record x { snap = left_by (dep_turn c.self.inside.own.all x.snap) x.snap }) o.0 o.1 o.2 (c.look.ensures.looked o.0 o.1).left)

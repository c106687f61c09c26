use Rattle.std.proofs.Common.{ap, subst, sym, ◌∙◌}
use Rattle.str_model.specs.Views.{Own}
use Rattle.tx_script.specs.Doing.{run_of}
use Rattle.tx_script.specs.Turns.{turn_of}
use Rattle.node_parts.specs.Owning.{IsFree, OwnState, turned}
use Rattle.node_parts.proofs.Owning.ListKept.{kept_free}
use Rattle.node_parts.proofs.Owning.NamesKept.{lent, owns_set}
use Rattle.node_parts.proofs.Owning.ScriptTurns.{turned_free, turned_place}
use Rattle.node_parts.proofs.own_list.OwnList.operate.Goals as goal

pub invariant_of-self : goal.invariant_of-self
invariant_of-self c =
    let in' = c.self.inside in
    let old = c.index_mut-own.result.now in
    let new = c.operate.new.self in
    let e = c.operate.ensures.own in
    let r = c.requires in
    let l = lent in'.all.items c.args.i old c.args.self.now.all r.0 (ap (λ (v : OwnState). v.all) c.self.view_is) r.1 c.index_mut-own.ensures.value in
    let t = turn_of c.args.ops.now (run_of old.own) in
    let f : IsFree old.own = subst IsFree (sym l.own) r.2.0 in
    let g : IsFree new.own = subst IsFree (sym e) (turned_free t old.own f) in
    (kept_free _ _ _ _ _ c.args.i old new c.self.invariant.0 l.stands c.operate.ensures.tx (ap (λ (z : Own). z.place) e ∙ turned_place t old.own) f g, c.self.invariant.1)

pub returns-clause-turn : goal.returns-clause-turn
returns-clause-turn c x e =
    let old = c.index_mut-own.result.now in
    let l = lent c.self.inside.all.items c.args.i old c.args.self.now.all x (ap (λ (v : OwnState). v.all) c.self.view_is) e c.index_mut-own.ensures.value in
    c.operate.ensures.turn ∙ ap (λ (z : Own). (turn_of c.args.ops.now (run_of z)).turn) l.own

pub returns-clause-own : goal.returns-clause-own
returns-clause-own c x e =
    let in' = c.self.inside in
    let old = c.index_mut-own.result.now in
    let new = c.operate.new.self in
    let s = c.self.view_is in
    let a = ap (λ (v : OwnState). v.all) s in
    let l = lent in'.all.items c.args.i old c.args.self.now.all x a e c.index_mut-own.ensures.value in
    let y = c.operate.ensures.own ∙ ap (λ (z : Own). turned (turn_of c.args.ops.now (run_of z)) z) l.own in
    let all = owns_set in'.all.items c.args.i new c.args.self.now.all _ a y in
    λ j. record { node = (s j).node; all = all j; sessions = (s j).sessions; spare = (s j).spare }

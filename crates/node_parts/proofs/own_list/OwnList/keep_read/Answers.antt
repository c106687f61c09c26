use Rattle.std.proofs.Common.{ap, subst, sym, ◌∙◌}
use Rattle.str_model.specs.Scripts.{noted}
use Rattle.node_parts.specs.Owning.{IsFree, Named, OwnState}
use Rattle.node_parts.proofs.Owning.ListKept.{kept_free}
use Rattle.node_parts.proofs.Owning.NamesKept.{lent, owns_set}
use Rattle.node_parts.proofs.own_list.OwnList.keep_read.Goals as goal

pub invariant_of-self : goal.invariant_of-self
invariant_of-self c =
    let in' = c.self.inside in
    let old = c.index_mut-own.result.now in
    let new = c.keep_read.new.self in
    let e = c.keep_read.ensures in
    let r = c.requires in
    let l = lent in'.all.items c.args.i old c.args.self.now.all r.0 (ap (λ (v : OwnState). v.all) c.self.view_is) r.1 c.index_mut-own.ensures.value in
    let f : IsFree old.own = subst IsFree (sym l.own) r.2.0 in
    let g : IsFree new.own = subst IsFree (ap (λ (z : Named). z.own) (sym e)) f in
    (kept_free _ _ _ _ _ c.args.i old new c.self.invariant.0 l.stands (ap (λ (z : Named). z.tx) e) (ap (λ (z : Named). z.own.place) e) f g, c.self.invariant.1)

pub returns : goal.returns
returns c x e =
    let in' = c.self.inside in
    let old = c.index_mut-own.result.now in
    let new = c.keep_read.new.self in
    let s = c.self.view_is in
    let a = ap (λ (v : OwnState). v.all) s in
    let l = lent in'.all.items c.args.i old c.args.self.now.all x a e c.index_mut-own.ensures.value in
    let y = ap (λ (z : Named). z.own) c.keep_read.ensures ∙ ap (noted c.args.key c.args.value c.args.by c.args.snap) l.own in
    let all = owns_set in'.all.items c.args.i new c.args.self.now.all _ a y in
    λ j. record { node = (s j).node; all = all j; sessions = (s j).sessions; spare = (s j).spare }

use Rattle.std.proofs.Common.{ap, sym, ◌∙◌}
use Rattle.str_model.specs.Acts.{with_asked}
use Rattle.str_model.specs.Views
use Rattle.str_model.specs.Views.{Own, is_decided, lc_of}
use Rattle.node_parts.specs.Owning.{Named, OwnState}
use Rattle.node_parts.proofs.Owning.ListKept.{certain_told, kept_same}
use Rattle.node_parts.proofs.Owning.NamesKept.{lent, owns_set}
use Rattle.node_parts.proofs.own_list.OwnList.ask.Goals as goal

pub invariant_of-self : goal.invariant_of-self
invariant_of-self c =
    let in' = c.self.inside in
    let old = c.index_mut-own.result.now in
    let new = c.ask.new.self in
    let e = c.ask.ensures in
    let r = c.requires in
    let l = lent in'.all.items c.args.i old c.args.self.now.all r.0 (ap (λ (v : OwnState). v.all) c.self.view_is) r.1 c.index_mut-own.ensures.value in
    let o = ap (λ (z : Own). is_decided z.phase) l.own ∙ r.2.0 in
    let n = ap (λ (z : Own). lc_of z.phase) l.own ∙ r.2.1 in
    let p = ap (λ (z : Named). z.own.phase) e in (
      kept_same _ _ _ _ _ c.args.i old new c.self.invariant.0 l.stands (ap (λ (z : Named). z.tx) e) (ap (λ (z : Named). z.own.place) e)
          (ap is_decided p ∙ sym o)
          (certain_told new.own c.args.lc.0 (ap is_decided p) (ap lc_of p) ∙ sym (certain_told old.own c.args.lc.0 o n))
          (λ t. ap (λ (z : Named). z.own.snap) e),
      c.self.invariant.1,
    )

pub returns : goal.returns
returns c x e =
    let in' = c.self.inside in
    let old = c.index_mut-own.result.now in
    let new = c.ask.new.self in
    let s = c.self.view_is in
    let a = ap (λ (v : OwnState). v.all) s in
    let l = lent in'.all.items c.args.i old c.args.self.now.all x a e c.index_mut-own.ensures.value in
    let y = ap (λ (z : Named). z.own) c.ask.ensures ∙ ap (λ (z : Own). record z { parts = with_asked c.args.part z.parts; phase = Views.Global c.args.lc.0 }) l.own in
    let all = owns_set in'.all.items c.args.i new c.args.self.now.all _ a y in
    λ j. record { node = (s j).node; all = all j; sessions = (s j).sessions; spare = (s j).spare }

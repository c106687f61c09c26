use Rattle.std.proofs.Common.{List, Option, ap, subst}
use Rattle.partition_map.specs.declared.rows.Asked.{Asked}
use Rattle.str_base.proofs.Lists.{slice_get_there}
use Rattle.str_model.specs.Returns.{with_ack}
use Rattle.str_model.specs.Views.{Own, is_decided}
use Rattle.node_parts.specs.Owning.{HasParts, Named, OwnState, is_told}
use Rattle.node_parts.proofs.Owning.ListKept.{kept_same}
use Rattle.node_parts.proofs.Owning.NamesKept.{lent}
use Rattle.node_parts.proofs.Owning.Participants.{acked_all, acked_only}
use Rattle.node_parts.proofs.own_list.OwnList.ack.Goals as goal

pub invariant_of-self : goal.invariant_of-self
invariant_of-self c =
    let in' = c.self.inside in
    let old = c.index_mut-own.result.now in
    let new = c.ack.new.self in
    let e = (acked_only _ c.ack.result old new c.ack.ensures).1 in
    let r = slice_get_there c.args.self.now.all c.args.i c.requires in
    let l = lent in'.all.items c.args.i old c.args.self.now.all r.0 (ap (λ (v : OwnState). v.all) c.self.view_is) r.1 c.index_mut-own.ensures.value in (
      kept_same _ _ _ _ _ c.args.i old new c.self.invariant.0 l.stands (ap (λ (z : Named). z.tx) e) (ap (λ (z : Named). z.own.place) e)
          (ap (λ (z : Named). is_decided z.own.phase) e) (ap (λ (z : Named). is_told z.own) e) (λ t. ap (λ (z : Named). z.own.snap) e),
      c.self.invariant.1,
    )

pub returns : goal.returns
returns c x e =
    let in' = c.self.inside in
    let old = c.index_mut-own.result.now in
    let new = c.ack.new.self in
    let s = c.self.view_is in
    let l = lent in'.all.items c.args.i old c.args.self.now.all x (ap (λ (v : OwnState). v.all) s) e c.index_mut-own.ensures.value in
    let q = ap (λ (z : Own). with_ack z.parts c.args.part c.args.node c.args.ts.0) l.own in
    let k = subst (λ (o : Option (List Asked)). HasParts o c.ack.result old new) q c.ack.ensures in
    acked_all (with_ack x.parts c.args.part c.args.node c.args.ts.0) c.ack.result old new in'.all.items in'.node _ _ c.args.i c.args.self.now x k s l.stands l.own

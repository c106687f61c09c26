use Rattle.std.proofs.Common.{ap, arith, length, ◌+◌, ◌<◌, ◌∙◌}
use Rattle.std.proofs.lemmas.List.{length-map}
use Rattle.node_parts.specs.Owning.{Named, OwnState}
use Rattle.node_parts.proofs.Owning.NamesKept.{at_place, number_is}
use Rattle.node_parts.proofs.own_list.OwnList.at.Goals as goal

pub returns-clause-tx : goal.returns-clause-tx
returns-clause-tx c =
    let in' = c.self.inside in
    let s = c.self.view_is in
    let n = ap (λ (v : OwnState). length v.all) s in
    let h : c.args.i < length in'.all.items = omega (arith, c.requires, n, length-map in'.all.items (λ (x : Named). x.own)) in
    let e = at_place in'.all.items c.args.i c.index.result.now h c.index.ensures in
    number_is in'.node in'.all.items c.args.i c.index.result.now c.self.invariant.0.numbered e ∙ (λ j. record { node = (s j).node; seq = c.args.i + 1 })

use Rattle.std.proofs.Common.{List, ap, arith, subst, ◌∙◌}
use Rattle.std.proofs.lemmas.Grind.{common_steps}
use Rattle.std.proofs.lemmas.List.{take_all}
use Rattle.dependency_set.specs.declared.names.Dep.{Dep}
use Rattle.dependency_set.specs.Snapshots.{Snap}
use Rattle.node_core.proofs.Parts.Showing.{same_at}
use Rattle.node_core.proofs.Parts.WrittenParts.{AreParts, dep_there, parts_tell, told_next, written_has}
use Rattle.str_model.specs.Views.{Own}
use Rattle.node_core.proofs.queries.wrote.Goals as goal

pub overflow_sub-dep : goal.overflow_sub-dep
overflow_sub-dep c =
    let e = c.deps-dep-items.ensures.value ∙ ap (λ (z : Snap). z.deps) c.snap.ensures in
    (dep_there c.args.own.now.all c.args.i _ c.deps-dep-items.result.now c.loop-dep.dep-index _ c.requires.deps c.at.ensures.own e c.loop-dep-test.true).0

pub at-requires-in-loop-dep : goal.at-requires-in-loop-dep
at-requires-in-loop-dep c =
    let e = c.deps-dep-items.ensures.value ∙ ap (λ (z : Snap). z.deps) c.snap.ensures in
    let d : Dep = record { seq = 0; rs = record { 0 = 0 } } in
    let r = dep_there c.args.own.now.all c.args.i _ c.deps-dep-items.result.now c.loop-dep.dep-index d c.requires.deps c.at.ensures.own e c.loop-dep-test.true in
    let a = r.0 in let b = r.1 in omega (arith, a, b)

pub parts_of-requires : goal.parts_of-requires
parts_of-requires c = written_has c.args.site.now c.args.own.now.all _ _ c.writes.result.now c.requires.keys c.at-in-loop-dep.ensures.own c.writes.ensures

pub loop-dep-preserved : goal.loop-dep-preserved
loop-dep-preserved c = record {
  count = grind (arith, common_steps);
  told = told_next c.args.site.now c.id.ensures.limits c.args.own.now.all c.deps-dep-items.result.now c.loop-dep.dep-index _ c.loop-dep.wrote.items c.push.new.self.items _ c.writes.result.now c.parts_of.result
      c.requires.keys c.loop-dep-test.true c.at-in-loop-dep.ensures.own c.writes.ensures c.parts_of.ensures c.push.ensures.items c.loop-dep.invariant.told;
}

pub returns : goal.returns
returns c x own =
    let e = c.deps-dep-items.ensures.value ∙ (ap (λ (z : Snap). z.deps) c.snap.ensures ∙ ap (λ (z : Own). z.snap.deps) (same_at _ c.args.i _ _ c.at.ensures.own own)) in
    let t = take_all c.loop-dep.dep-index c.deps-dep-items.result.now c.loop-dep-test.false in
    let told = subst (λ (z : List Dep). AreParts c.args.site.now c.args.own.now.all z c.loop-dep.wrote.items) (t ∙ e) c.loop-dep.invariant.told in
    parts_tell c.args.site.now c.args.own.now.all x.snap.deps c.loop-dep.wrote.items told

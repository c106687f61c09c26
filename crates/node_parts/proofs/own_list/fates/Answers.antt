use Rattle.std.proofs.Common.{List, arith, get_or, refl, subst, take}
use Rattle.std.proofs.lemmas.Grind.{common_steps}
use Rattle.std.proofs.lemmas.List.{take_more, take_all}
use Rattle.dependency_set.specs.declared.names.Dep.{Dep}
use Rattle.node_parts.proofs.Owning.DependencyFates.{AreFates, fates_more, fates_name}
use Rattle.node_parts.proofs.Owning.NamesKept.{owns}
use Rattle.node_parts.proofs.own_list.fates.Goals as goal

pub loop-dep-preserved : goal.loop-dep-preserved
loop-dep-preserved c =
    let i = c.loop-dep.dep-index in
    let none : Dep = record { seq = 0; rs = record { 0 = 0 } } in
    let d : Dep = get_or c.args.deps.now i none in
    record {
      count = grind (arith, common_steps);
      right = rw (take_more c.args.deps.now i none c.loop-dep-test.true, c.push.ensures.items)
          (fates_more (owns c.args.all.now) (take i c.args.deps.now) c.loop-dep.fates.items d (record { seq = d.seq; kind = c.fate_of.result }) c.loop-dep.invariant.right refl c.fate_of.ensures);
    }

pub returns : goal.returns
returns c =
    let e = take_all c.loop-dep.dep-index c.args.deps.now c.loop-dep-test.false in
    fates_name (owns c.args.all.now) c.args.deps.now c.loop-dep.fates.items (subst (λ (l : List Dep). AreFates (owns c.args.all.now) l c.loop-dep.fates.items) e c.loop-dep.invariant.right)

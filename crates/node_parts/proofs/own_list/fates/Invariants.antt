use Rattle.std.proofs.Common.{length, map, take, ◌≡◌}
use Rattle.node_parts.specs.Owning.{Named}
use Rattle.node_parts.proofs.Owning.DependencyFates.{AreFates}
use Rattle.node_parts.proofs.own_list.fates.Given as goal

abbrev pub invariant-loop-dep : goal.invariant-loop-dep
invariant-loop-dep l = record {
  count : length l.fates.items ≡ l.dep-index;
  right : AreFates (map (λ (x : Named). x.own) l.all) (take l.dep-index l.deps) l.fates.items;
}

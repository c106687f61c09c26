use Rattle.std.proofs.Common.{drop, map, slice_get, ◌-◌, ◌≡◌}
use Rattle.std.specs.List.{list_any}
use Rattle.str_model.specs.Turns.{own_fate}
use Rattle.node_parts.specs.Owning.{Named, is_closed}
use Rattle.node_parts.proofs.own_list.has_closed.Given as goal

abbrev pub invariant-loop-dep : goal.invariant-loop-dep
invariant-loop-dep l =
    list_any (λ d. is_closed (own_fate (slice_get (map (λ (x : Named). x.own) l.all) (d.seq - 1)))) (drop l.dep-index l.deps)
    ≡ list_any (λ d. is_closed (own_fate (slice_get (map (λ (x : Named). x.own) l.all) (d.seq - 1)))) l.deps

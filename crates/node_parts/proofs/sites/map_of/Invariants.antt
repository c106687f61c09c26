use Rattle.std.proofs.Common.{List, map, take, ℕ, ◌≡◌}
use Rattle.str_base.specs.declared.names.PartId.{PartId}
use Rattle.node_parts.proofs.sites.map_of.Given as goal

abbrev pub invariant-loop-key : goal.invariant-loop-key
invariant-loop-key l = l.keys.items ≡ map (λ (k : List ℕ × PartId). k.1) (take l.key l.scene.keys.names)

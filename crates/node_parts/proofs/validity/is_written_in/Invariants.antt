use Rattle.std.proofs.Common.{drop, map, ◌≡◌}
use Rattle.std.specs.List.{list_any}
use Rattle.str_base.specs.declared.names.Write.{Write}
use Rattle.str_base.specs.Versions.{same_key}
use Rattle.node_parts.proofs.validity.is_written_in.Given as goal

abbrev pub invariant-loop-write : goal.invariant-loop-write
invariant-loop-write l =
    list_any (same_key l.key) (map (λ (w : Write). w.key) (drop l.write-index l.writes)) ≡ list_any (same_key l.key) (map (λ (w : Write). w.key) l.writes)

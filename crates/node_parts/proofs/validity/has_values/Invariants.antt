use Rattle.std.proofs.Common.{drop, ◌≡◌}
use Rattle.str_model.specs.Strange.{has_values}
use Rattle.node_parts.proofs.validity.has_values.Given as goal

abbrev pub invariant-loop-write : goal.invariant-loop-write
invariant-loop-write l = has_values l.site (drop l.write-index l.write-items) ≡ has_values l.site l.writes

use Rattle.std.proofs.Common.{drop, map, ◌≡◌}
use Rattle.str_base.specs.declared.names.Write.{Write}
use Rattle.str_model.specs.Strange.{keys_in}
use Rattle.node_parts.proofs.validity.has_written_keys.Given as goal

abbrev pub invariant-loop-i : goal.invariant-loop-i
invariant-loop-i l = keys_in l.site l.part (map (λ (w : Write). w.key) (drop l.i l.items)) ≡ keys_in l.site l.part (map (λ (w : Write). w.key) l.writes)

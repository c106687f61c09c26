use Rattle.std.proofs.Common.{drop, map, ◌≡◌}
use Rattle.std.specs.List.{list_any}
use Rattle.str_model.specs.declared.names.KeyMark.{KeyMark}
use Rattle.str_base.specs.Versions.{same_key}
use Rattle.node_parts.proofs.validity.is_marked_in.Given as goal

abbrev pub invariant-loop-mark : goal.invariant-loop-mark
invariant-loop-mark l =
    list_any (same_key l.key) (map (λ (m : KeyMark). m.key) (drop l.mark-index l.marks)) ≡ list_any (same_key l.key) (map (λ (m : KeyMark). m.key) l.marks)

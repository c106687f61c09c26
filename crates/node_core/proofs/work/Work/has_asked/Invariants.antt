use Rattle.std.proofs.Common.{drop, ◌&&◌, ◌≡◌}
use Rattle.std.specs.List.{list_any}
use Rattle.partition_map.specs.declared.rows.Asked.{Asked}
use Rattle.str_base.specs.Versions.{same_part}
use Rattle.node_core.proofs.work.Work.has_asked.Given as goal

abbrev pub invariant-loop-other : goal.invariant-loop-other
invariant-loop-other l = list_any (λ (a : Asked). same_part a.part l.part && a.asked) (drop l.other-index l.other-items) ≡ list_any (λ (a : Asked). same_part a.part l.part && a.asked) l.other-items

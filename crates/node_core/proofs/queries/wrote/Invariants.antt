use Rattle.std.proofs.Common.{length, take, ◌≡◌}
use Rattle.node_core.proofs.Parts.WrittenParts.{AreParts}
use Rattle.node_core.proofs.queries.wrote.Given as goal

abbrev pub invariant-loop-dep : goal.invariant-loop-dep
invariant-loop-dep l = record {
  count : length l.wrote.items ≡ l.dep-index;
  told : AreParts l.site l.own.all (take l.dep-index l.dep-items) l.wrote.items;
}

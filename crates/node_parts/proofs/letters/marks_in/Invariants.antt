use Rattle.std.proofs.Common.{drop, length, ◌++◌, ◌≡◌, ◌≤◌}
use Rattle.node_parts.specs.Letters.{marks_by}
use Rattle.node_parts.proofs.letters.marks_in.Given as goal

abbrev pub invariant-loop-write : goal.invariant-loop-write
invariant-loop-write l = record {
  few : length l.list ≤ l.write-index;
  rest : l.list ++ marks_by l.site l.marks l.part (drop l.write-index l.write-items) ≡ marks_by l.site l.marks l.part l.writes;
}

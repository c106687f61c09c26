use Rattle.std.proofs.Common.{drop, filter, length, ◌++◌, ◌≡◌, ◌≤◌}
use Rattle.str_scene.specs.Scenes.{in_part}
use Rattle.node_parts.proofs.letters.writes_in.Given as goal

abbrev pub invariant-loop-write : goal.invariant-loop-write
invariant-loop-write l = record {
  few : length l.list ≤ l.write-index;
  rest : l.list ++ filter (in_part l.site.scene l.part) (drop l.write-index l.write-items) ≡ filter (in_part l.site.scene l.part) l.writes;
}

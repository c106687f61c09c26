use Rattle.std.proofs.Common.{drop, length, map, ◌++◌, ◌≡◌, ◌≤◌}
use Rattle.str_base.specs.declared.names.Write.{Write}
use Rattle.str_scene.specs.Scenes.{part_of}
use Rattle.node_core.proofs.queries.parts_of.Given as goal

abbrev pub invariant-loop-write : goal.invariant-loop-write
invariant-loop-write l = record {
  few : length l.parts ≤ l.write-index;
  rest : l.parts ++ map (λ (w : Write). part_of l.site.scene w.key) (drop l.write-index l.write-items) ≡ map (λ (w : Write). part_of l.site.scene w.key) l.writes;
}

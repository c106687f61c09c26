use Rattle.std.proofs.Common.{length, ◌+◌, ◌≡◌}
use Rattle.ring_links.specs.Ends.{AreEnds}
use Rattle.str_scene.specs.SceneLimits.{IsScene}
use Rattle.strrace.proofs.Starting.{AreMade}
use Rattle.strrace.proofs.start.fresh_nodes.Given as goal

abbrev pub invariant-loop-place : goal.invariant-loop-place
invariant-loop-place g l = record {
  limits : IsScene l.scene;
  ends : AreEnds l.initial.all.items l.scene.nodes;
  made : AreMade l.scene l.place l.initial.all.items l.all.items l.nodes.items;
  clocks : length l.clocks.items + l.place ≡ 8;
  gates : length l.gates.items + l.place ≡ 8;
}

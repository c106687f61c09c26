use Rattle.std.proofs.Common.{length, nat_le, ◌&&◌, ◌≡◌, ◌≤◌}
use Rattle.str_base.specs.declared.names.PartId.{PartId}
use Rattle.str_scene.specs.Scenes.{hosts}
use Rattle.version_chain.specs.ChainLists.{is_among}
use Rattle.node_parts.proofs.held.hosted.Given as goal

abbrev pub invariant-loop-i : goal.invariant-loop-i
invariant-loop-i l = record {
  few : length l.list ≤ l.i;
  are : (p : PartId) → is_among l.list p ≡ (nat_le p.0 l.i && hosts l.site.scene l.site.node p);
}

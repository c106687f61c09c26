use Rattle.std.proofs.Common.{length, replicate, ◌≡◌}
use Rattle.cluster_run.specs.Clusters.{ArePlaced, views_of}
use Rattle.cluster_run.proofs.members.opening_nodes.Given as goal
use Rattle.str_model.specs.Runs.{opening_view}

abbrev pub invariant-loop-i : goal.invariant-loop-i
invariant-loop-i l = record {
  count : length l.nodes.items ≡ l.i;
  views : views_of l.nodes.items ≡ replicate l.i (opening_view l.scene);
  placed : ArePlaced l.scene l.nodes.items;
}

use Rattle.std.proofs.Common.{ap, arith, length, subst, sym, ◌∙◌}
use Rattle.std.proofs.lemmas.List.{length_push}
use Rattle.cluster_run.proofs.Places.{placed_more, views_more}
use Rattle.cluster_run.proofs.members.opening_nodes.Goals as goal
use Rattle.cluster_run.specs.Clusters.{ArePlaced, views_of}

pub loop-i-preserved : goal.loop-i-preserved
loop-i-preserved c =
    let ns = c.loop-i.nodes.items in
    let n = c.in_ok-node.node in
    let items = c.in_ok-push.ensures.items in
    let more = length_push ns n in
    record {
      count = (let e = ap length items in omega (arith, e, more, c.loop-i.invariant.count));
      views = ap views_of items ∙ views_more c.args.scene.now ns n c.loop-i.i c.in_ok-node.ensures.view c.loop-i.invariant.views;
      placed = subst (ArePlaced c.args.scene.now) (sym items) (placed_more c.args.scene.now ns n c.loop-i.i c.loop-i.invariant.count c.in_ok-node.ensures.scene c.in_ok-node.ensures.id c.loop-i.invariant.placed);
    }

use Rattle.std.proofs.Common.{ap, length, min, sum_by, ◌-◌, ◌^◌, ◌∙◌, ◌≡◌}
use Rattle.cluster_run.proofs.Counting.{sum_views}
use Rattle.cluster_run.proofs.pruned.PrunedCluster.kept.Goals as goal
use Rattle.cluster_run.specs.Clusters.{world_of}
use Rattle.cluster_run.specs.PrunedStates.{kept_versions}
use Rattle.node_core.specs.Working.{NodeState}
use Rattle.str_model.specs.Views.{View}

pub returns : goal.returns
returns c =
    let p = c.self.inside.parts in
    let all : c.kept_among.result ≡ min (kept_versions (world_of p.cluster)) (2 ^ 64 - 1) =
    c.kept_among.ensures ∙ ap (λ k. min k (2 ^ 64 - 1)) (ap (sum_by (λ (n : NodeState). length n.view.versions)) c.as_slice.ensures.value ∙ sum_views (λ (v : View). length v.versions) p.cluster.nodes.items) in
    rw (← c.self.view_is) all

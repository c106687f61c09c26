use Rattle.std.proofs.Common.{Some, ap, length, option_map, refl, slice_get, ◌∙◌, ◌≡◌}
use Rattle.std.proofs.lemmas.Option.{slice_get-map, slice_get_read}
use Rattle.cluster_run.proofs.members.low_at.Goals as goal
use Rattle.cluster_run.specs.Clusters.{views_of}
use Rattle.node_core.specs.Working.{NodeState}
use Rattle.si_laws.proofs.Stages.LinkedStates.{one_of}
use Rattle.str_model.specs.Pruning.{low}

pub returns : goal.returns
returns c v e =
    let ns = c.args.nodes.now.items in
    let n = c.index-member.result.now in
    let g : slice_get ns c.args.place ≡ Some n = slice_get_read ns (length ns) c.args.place n refl c.requires c.index-member.ensures in
    let there : slice_get (views_of ns) c.args.place ≡ Some n.view = slice_get-map (λ (z : NodeState). z.view) ns c.args.place ∙ ap (option_map (λ (z : NodeState). z.view)) g in
    c.low.ensures ∙ ap low (one_of n.view v (slice_get (views_of ns) c.args.place) there e)

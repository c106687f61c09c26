use Rattle.std.proofs.Common.{Some, length, refl, slice_get, ◌≡◌}
use Rattle.std.proofs.lemmas.Option.{slice_get_read}
use Rattle.cluster_run.proofs.members.prune_at.Goals as goal
use Rattle.cluster_run.proofs.Stepping.{pruned_set}

pub returns : goal.returns
returns c =
    let ns = c.args.nodes.now.items in
    let n = c.index_mut-member.result.now in
    let g : slice_get ns c.args.place ≡ Some n = slice_get_read ns (length ns) c.args.place n refl c.requires c.index_mut-member.ensures.value in
    pruned_set ns c.args.place c.args.below.0 n c.prune.new.self g c.prune.ensures.scene c.prune.ensures.id c.prune.ensures.view

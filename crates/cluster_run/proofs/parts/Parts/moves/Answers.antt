use Rattle.std.proofs.Common.{Some, ap, length, option_map, refl, rules, slice_get, sym, ◌∙◌, ◌≡◌}
use Rattle.std.proofs.lemmas.Option.{slice_get_read}
use Rattle.node_core.specs.Working.{NodeState}
use Rattle.cluster_run.specs.Clusters.{world_of}
use Rattle.cluster_run.proofs.Looking.{moves_is, moves_no_node, moves_nowhere}
use Rattle.cluster_run.proofs.Stepping.{nth-map}
use Rattle.cluster_run.proofs.parts.Parts.moves.Goals as goal
use Rattle.si_laws.proofs.Reasons.CommitsAfter.{place_nth}

pub returns-in_default : goal.returns-in_default
returns-in_default c = moves_nowhere c.args.self.now.scene (world_of c.args.self.now) c.args.session.0 (sym c.in_default.is ∙ c.node_of.ensures)

pub returns-in_default-place_of : goal.returns-in_default-place_of
returns-in_default-place_of c =
    moves_no_node c.args.self.now.scene (world_of c.args.self.now) c.args.session.0 c.in-Some.node c.in-Some.ensures
    (nth-map (λ (n : NodeState). n.view) c.args.self.now.nodes.items c.in-Some.node.0 ∙ ap (option_map (λ (n : NodeState). n.view)) (c.in_default-place_of.ensures.none (search rules)))

pub returns : goal.returns
returns c =
    let ns = c.args.self.now.nodes.items in
    let i = c.in-Some-place_of.place in
    let n = c.index-member.result.now in
    let g : slice_get ns i ≡ Some n = slice_get_read ns (length ns) i n refl c.in-Some-place_of.ensures.some.1 c.index-member.ensures in
    moves_is c.args.self.now.scene (world_of c.args.self.now) ns c.args.session c.in-Some.node n c.client_idle.result c.requires refl c.in-Some.ensures (place_nth ns c.in-Some.node.0 i n c.in-Some-place_of.ensures.some.0 g) (c.client_idle.ensures 0)

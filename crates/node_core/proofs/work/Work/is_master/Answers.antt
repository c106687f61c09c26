use Rattle.std.proofs.Common.{ap, subst, sym, true, ◌∙◌, ◌≡◌}
use Rattle.node_parts.proofs.Posting.{leads_row}
use Rattle.node_core.specs.Working.{WorkState}
use Rattle.node_core.proofs.Parts.Showing.{part_there}
use Rattle.partition_map.specs.Maps as maps
use Rattle.partition_map.specs.Maps.{HasPart, PartitionMap, first_or}
use Rattle.str_base.specs.declared.names.NodeId.{NodeId}
use Rattle.str_model.specs.Strange.{has_part}
use Rattle.str_scene.specs.Scenes.{replicas}
use Rattle.node_core.proofs.work.Work.is_master.Goals as goal

pub master-requires : goal.master-requires
master-requires c =
    let k = subst (λ (w : WorkState). has_part w.here c.args.part ≡ true) (sym c.self.view_is) c.requires in
    subst (λ z. HasPart z c.args.part) c.map.ensures.value (part_there c.self.inside.site c.args.part k)

pub returns : goal.returns
returns c =
    let scene = c.self.inside.site.scene in
    let first : (k : NodeId) → c.master.result ≡ first_or k (replicas scene c.args.part) = λ k. c.master.ensures k ∙ ap (λ (z : PartitionMap). first_or k (maps.replicas z c.args.part)) (sym c.map.ensures.value) in
    rw (← c.self.view_is) (sym (leads_row (replicas scene c.args.part) c.args.node c.master.result c.eq.result first (sym c.eq.ensures)))

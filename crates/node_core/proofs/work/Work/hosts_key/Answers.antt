use Rattle.std.proofs.Common.{ap, subst, sym, true, ◌∙◌, ◌≡◌}
use Rattle.node_core.specs.Working.{WorkState}
use Rattle.node_core.proofs.Parts.Showing.{key_there}
use Rattle.partition_map.specs.Maps as maps
use Rattle.partition_map.specs.Maps.{HasKey, PartitionMap}
use Rattle.str_base.specs.declared.names.NodeId.{NodeId}
use Rattle.str_base.specs.declared.names.PartId.{PartId}
use Rattle.str_model.specs.Strange.{has_key}
use Rattle.str_scene.proofs.Mapped.{part-mapped}
use Rattle.str_scene.specs.Scenes.{hosts}
use Rattle.node_core.proofs.work.Work.hosts_key.Goals as goal

pub part_of-requires : goal.part_of-requires
part_of-requires c =
    let k = subst (λ (w : WorkState). has_key w.here c.args.key ≡ true) (sym c.self.view_is) c.requires in
    subst (λ z. HasKey z c.args.key) c.map-map.ensures.value (key_there c.self.inside.site c.args.key k)

pub returns : goal.returns
returns c =
    let scene = c.self.inside.site.scene in
    let m = sym c.map-map.ensures.value in
    let p = c.part_of.ensures.value ∙ (ap (λ (z : PartitionMap). maps.part_of z c.args.key) m ∙ part-mapped scene c.args.key) in
    rw (← c.self.view_is)
    (c.hosts.ensures ∙ (ap (λ (z : PartitionMap). maps.hosts z c.id.result c.part_of.result) m
    ∙ (ap (λ (z : NodeId). hosts scene z c.part_of.result) c.id.ensures.value ∙ ap (λ (z : PartId). hosts scene c.self.inside.site.node z) p)))

use Rattle.std.proofs.Common.{ap, false, filter, rules, subst, true, ◌∙◌, ◌≡◌}
use Rattle.node_parts.proofs.Posting.{ask_copies, copies_room, leads_row, prepare_room}
use Rattle.node_parts.specs.Letters.{Sends}
use Rattle.partition_map.specs.Maps.{first_or}
use Rattle.str_base.specs.declared.names.NodeId.{NodeId}
use Rattle.str_base.specs.Versions.{same_node, stamp}
use Rattle.str_model.specs.Acts.{copies}
use Rattle.str_model.specs.declared.messages.Arrived.{Arrived}
use Rattle.str_model.specs.Views.{name_of}
use Rattle.str_scene.specs.Scenes.{in_part, replicas}
use Rattle.node_parts.proofs.letters.send_asks.Goals as goal

pub send_copies-requires-clause-space : goal.send_copies-requires-clause-space
send_copies-requires-clause-space c =
    let here = c.args.site.now in
    let rows = replicas here.scene c.args.part in
    let first : (k : NodeId) → c.master-master.result ≡ first_or k rows = search rules in
    let same : same_node c.master-master.result here.node ≡ true = search rules in
    copies_room here c.args.writes.now c.args.part c.args.lc.0 c.args.out.now.space rows c.requires.space (leads_row rows here.node c.master-master.result true first same) _

pub returns-then-eq : goal.returns-then-eq
returns-then-eq c i x e s w =
    let here = c.args.site.now in
    let rows = replicas here.scene c.args.part in
    let first : (k : NodeId) → c.master-master.result ≡ first_or k rows = search rules in
    let same : same_node c.master-master.result here.node ≡ true = search rules in
    let asked : Arrived = record { tx = c.args.tx; part = c.args.part; rs = c.args.rs; lc = c.args.lc; writes = c.writes_in.result } in
    let of_own : Arrived = record { tx = name_of here i; part = c.args.part; rs = stamp x.snap.rs; lc = c.args.lc; writes = filter (in_part here.scene c.args.part) x.writes } in
    let written : c.writes_in.result ≡ filter (in_part here.scene c.args.part) x.writes = rw w c.writes_in.ensures in
    let is : asked ≡ of_own = cc (e, s, written) in
    subst (λ ms. Sends ms c.args.out.now c.send_copies.new.out)
    (ap (λ a. copies here a rows) is ∙ ask_copies here i c.args.lc.0 x c.args.part rows (leads_row rows here.node c.master-master.result true first same)) c.send_copies.ensures

pub send-requires : goal.send-requires
send-requires c =
    let here = c.args.site.now in
    let rows = replicas here.scene c.args.part in
    let first : (k : NodeId) → c.master-master.result ≡ first_or k rows = search rules in
    let other : same_node c.master-master.result here.node ≡ false = search rules in
    prepare_room here c.args.writes.now c.args.part c.args.lc.0 c.args.out.now.space rows c.requires.space (leads_row rows here.node c.master-master.result false first other)

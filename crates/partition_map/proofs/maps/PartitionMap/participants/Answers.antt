use Rattle.std.proofs.Common.{rules, sym, ◌∙◌}
use Rattle.partition_map.specs.Maps.{IsMap, part_of}
use Rattle.partition_map.proofs.Few.{participants_few}
use Rattle.partition_map.proofs.Taking.{fits, kept_else, kept_written, taking-all}
use Rattle.partition_map.proofs.maps.PartitionMap.participants.Goals as goal
use Rattle.partition_map.proofs.maps.PartitionMap.participants.Goals.{else-is_written, then-is_written}

pub loop-i-init : goal.loop-i-init
loop-i-init c =
    let m = c.args.self.now in
    rw c.new-list.ensures (sym (taking-all (part_of m) m.rows c.args.origin c.args.writes.now))

pub push_others-requires : goal.push_others-requires
push_others-requires c =
    let m = c.args.self.now in
    let is : IsMap m = rw c.self.view_is at c.self.invariant in
    let few = participants_few m c.args.origin c.args.writes.now is c.requires.origin c.is_written.ensures.limit in
    rw c.row.ensures.value
    (fits c.loop-i.list m c.args.origin c.args.writes.now c.loop-i.i (search rules) few c.loop-i.invariant (sym c.is_written.ensures.value ∙ c.if-is_written.true))

pub loop-i-preserved : goal.loop-i-preserved
loop-i-preserved c =
    let m = c.args.self.now in
    elim c.if-is_written.branch [
      | then-is_written w ↦ rw w.list-is
          (kept_written c.loop-i.list _ w.row.result.now m c.args.origin c.args.writes.now c.loop-i.i (search rules) c.loop-i.invariant
          (sym c.is_written.ensures.value ∙ w.if-is_written.true) w.row.ensures.value w.push_others.ensures)
      | else-is_written w ↦ rw w.list-is
          (kept_else c.loop-i.list m c.args.origin c.args.writes.now c.loop-i.i (search rules) c.loop-i.invariant
          (sym c.is_written.ensures.value ∙ w.if-is_written.false))
    ]

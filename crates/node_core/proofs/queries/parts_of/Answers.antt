use Rattle.std.proofs.Common.{arith}
use Rattle.std.proofs.lemmas.Grind.{common_steps}
use Rattle.node_core.proofs.Parts.WrittenParts.{parts_next, written_key}
use Rattle.node_core.proofs.queries.parts_of.Goals as goal

pub part_of-requires : goal.part_of-requires
part_of-requires c =
    written_key c.args.site.now c.map.result.now c.args.writes.now c.as_slice-write-items.result.now c.loop-write.write-index _ c.map.ensures.value c.requires c.as_slice-write-items.ensures.items c.loop-write-test.true

pub loop-write-preserved : goal.loop-write-preserved
loop-write-preserved c = record {
  few = grind (arith, common_steps);
  rest = parts_next c.args.site.now c.map.result.now c.args.writes.now c.as_slice-write-items.result.now c.loop-write.write-index _ c.loop-write.parts c.push.new.self c.part_of.result c.map.ensures.value c.loop-write-test.true
      c.part_of.ensures.value c.push.ensures c.loop-write.invariant.rest;
}

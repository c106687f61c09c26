use Rattle.request_frame.proofs.WritingParts.{part_written}
use Rattle.request_frame.proofs.write.push_part.Goals as goal

pub returns : goal.returns
returns c = part_written c.args.row.now c.args.out.now.items c.loop-node.out.items c.loop-node.node-index c.requires c.loop-node.invariant c.loop-node-test.false

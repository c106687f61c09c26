use Rattle.std.proofs.Common.{arith}
use Rattle.scene_text.proofs.Spelling.PartedBytes.{is_without_more}
use Rattle.scene_text.proofs.parting.place_of.Goals as goal

pub loop-i-preserved : goal.loop-i-preserved
loop-i-preserved c = is_without_more c.args.byte _ _ _ (omega arith) c.loop-i-test.true c.if-bytes-i.false c.loop-i.invariant

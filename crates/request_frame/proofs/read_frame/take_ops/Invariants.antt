use Rattle.std.proofs.Common.{length}
use Rattle.request_frame.proofs.OpsRead.{OpsSoFar}
use Rattle.request_frame.proofs.read_frame.take_ops.Given as goal

abbrev pub invariant-loop-left : goal.invariant-loop-left
invariant-loop-left l = OpsSoFar l.fn.payload l.left l.fn.reader l.reader

abbrev pub decreases-loop-left : goal.decreases-loop-left
decreases-loop-left l = length l.left

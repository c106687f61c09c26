use Rattle.std.proofs.Common.{length}
use Rattle.request_frame.proofs.OpsRead.{ScriptSoFar}
use Rattle.request_frame.proofs.script.check_script.Given as goal

abbrev pub invariant-loop-left : goal.invariant-loop-left
invariant-loop-left l = ScriptSoFar l.version l.parts l.fn.payload l.left l.ranged

abbrev pub decreases-loop-left : goal.decreases-loop-left
decreases-loop-left l = length l.left

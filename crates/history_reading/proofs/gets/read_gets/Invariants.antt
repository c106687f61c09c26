use Rattle.std.proofs.Common.{length}
use Rattle.history_reading.proofs.Spelled.GetsRead.{GetsSoFar}
use Rattle.history_reading.specs.Parts.{kept_gets}
use Rattle.history_reading.proofs.gets.read_gets.Given as goal

abbrev pub invariant-loop-words : goal.invariant-loop-words
invariant-loop-words l = GetsSoFar l.scene l.fn.text l.left (kept_gets l.read.all_kept l.read.list.items)

abbrev pub decreases-loop-words : goal.decreases-loop-words
decreases-loop-words l = length l.left

use Rattle.std.proofs.Common.{length}
use Rattle.scene_text.proofs.Spelling.PartRows.{RowSoFar}
use Rattle.scene_text.proofs.arguments.read_row.Given as goal

abbrev pub invariant-loop-word : goal.invariant-loop-word
invariant-loop-word l = RowSoFar l.fn.text l.left l.kept

abbrev pub decreases-loop-word : goal.decreases-loop-word
decreases-loop-word l = length l.left

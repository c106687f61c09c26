use Rattle.std.proofs.Common.{take, ◌++◌, ◌≡◌}
use Rattle.scene_text.specs.Writing.{written_row}
use Rattle.scene_text.proofs.write.push_row.Given as goal

abbrev pub invariant-loop-node : goal.invariant-loop-node
invariant-loop-node l = l.out.items ≡ l.fn.out.items ++ written_row (take l.node-index l.row)

use Rattle.std.proofs.Common.{take, ◌++◌, ◌≡◌}
use Rattle.scene_text.specs.Writing.{tx_text}
use Rattle.scene_text.proofs.write.push_tx.Given as goal

abbrev pub invariant-loop-op : goal.invariant-loop-op
invariant-loop-op l = l.out.items ≡ l.fn.out.items ++ tx_text l.keys (take l.op-index l.ops)

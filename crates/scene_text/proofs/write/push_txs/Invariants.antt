use Rattle.std.proofs.Common.{flat_map, take, ◌++◌, ◌≡◌}
use Rattle.scene_text.specs.Writing.{tx_text}
use Rattle.scene_text.proofs.write.push_txs.Given as goal

abbrev pub invariant-loop-ops : goal.invariant-loop-ops
invariant-loop-ops l = l.out.items ≡ l.fn.out.items ++ flat_map (tx_text l.keys) (take l.ops-index l.txs)

use Rattle.std.proofs.Common.{take, ◌++◌, ◌≡◌}
use Rattle.std.specs.Prelude.{flat_map}
use Rattle.request_frame.specs.Writing.{tx_bytes}
use Rattle.request_frame.proofs.write.push_txs.Given as goal

abbrev pub invariant-loop-ops : goal.invariant-loop-ops
invariant-loop-ops l = l.out.items ≡ l.fn.out.items ++ flat_map (tx_bytes l.keys) (take l.ops-index l.txs)

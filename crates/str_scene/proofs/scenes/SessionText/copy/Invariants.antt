use Rattle.std.proofs.Common.{◌≡◌, take}
use Rattle.str_scene.proofs.scenes.SessionText.copy.Given as goal

abbrev pub invariant-loop-ops : goal.invariant-loop-ops
invariant-loop-ops l = l.txs.items ≡ take l.ops-index l.ops-items

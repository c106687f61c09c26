use Rattle.std.proofs.Common.{◌≡◌, ◌+◌, drop, length}
use Rattle.std.specs.List.{sum_by}
use Rattle.cluster_run.proofs.last_line.scripts_of.Given as goal
use Rattle.str_scene.specs.Scenes.{Session}

abbrev pub invariant-loop-session : goal.invariant-loop-session
invariant-loop-session l = l.total + sum_by (λ (s : Session). length s.txs) (drop l.session-index l.session-items) ≡ sum_by (λ (s : Session). length s.txs) l.session-items

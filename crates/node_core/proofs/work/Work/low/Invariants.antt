use Rattle.std.proofs.Common.{drop, ◌≡◌}
use Rattle.str_model.specs.Pruning.{low}
use Rattle.node_core.proofs.OldVersions.LowMark.{least_at}
use Rattle.node_core.proofs.work.Work.low.Given as goal

-- the least so far and the snapshots at the places that are left come to the low mark
abbrev pub invariant-loop-place : goal.invariant-loop-place
invariant-loop-place l = least_at l.self.doing.view.own l.low.0 (drop l.place-index l.place-items) ≡ low l.self.doing.view

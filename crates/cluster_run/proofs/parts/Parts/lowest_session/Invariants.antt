use Rattle.std.proofs.Common.{◌≡◌, ◌+◌, ◌-◌, find, length}
use Rattle.std.specs.List.{range_with_len}
use Rattle.cluster_run.specs.Clusters.{world_of}
use Rattle.cluster_run.proofs.parts.Parts.lowest_session.Given as goal
use Rattle.str_model.specs.Drains.{moves, next_session}

abbrev pub invariant-loop-i : goal.invariant-loop-i
invariant-loop-i l = find (moves l.self.scene (world_of l.self)) (range_with_len (1 + l.i) (length l.self.scene.sessions - l.i)) ≡ next_session l.self.scene (world_of l.self)

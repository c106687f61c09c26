use Rattle.std.proofs.Common.{◌≡◌, ◌++◌, ◌-◌, length}
use Rattle.door.specs.Following.{run_entries}
use Rattle.door.specs.Keeping.{BoardFollows}
use Rattle.door.proofs.kept.hold_all.Given as goal

abbrev pub invariant-loop-entry : goal.invariant-loop-entry
invariant-loop-entry l = record {
  board : l.writer.board ≡ l.initial.writer.board;
  list : l.writer.list ≡ l.initial.writer.list;
  follows : BoardFollows l.cluster.scene l.cluster.world l.writer.places (l.writer.list ++ l.writer.held) l.extent;
  further : l.further ≡ l.extent;
}

abbrev pub decreases-loop-entry : goal.decreases-loop-entry
decreases-loop-entry l = length (run_entries l.cluster.world) - length (l.writer.list ++ l.writer.held)

use Rattle.std.proofs.Common.{length, ◌-◌, ◌≤◌}
use Rattle.history_reading.proofs.HeadsFound.{HeadSoFar}
use Rattle.history_reading.proofs.heads.after_scene.Given as goal

abbrev pub invariant-loop-feed : goal.invariant-loop-feed
invariant-loop-feed l = record {
  so_far : HeadSoFar l.text l.start l.count;
  within : l.start ≤ length l.text;
  few : l.count ≤ l.start;
}

abbrev pub decreases-loop-feed : goal.decreases-loop-feed
decreases-loop-feed l = length l.text - l.start

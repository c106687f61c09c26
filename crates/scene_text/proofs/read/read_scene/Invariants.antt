use Rattle.std.proofs.Common.{length, take, ◌-◌, ◌≤◌}
use Rattle.scene_text.specs.Reaching.{Reached}
use Rattle.scene_text.proofs.read.read_scene.Given as goal

abbrev pub invariant-loop-feed : goal.invariant-loop-feed
invariant-loop-feed l = record {
  reached : Reached (take l.start l.text) l.count l.reader;
  within : l.start ≤ length l.text;
  few : l.count ≤ l.start;
}

abbrev pub decreases-loop-feed : goal.decreases-loop-feed
decreases-loop-feed l = length l.text - l.start

use Rattle.std.proofs.Common.{length, take, ◌-◌, ◌≤◌}
use Rattle.history_reading.specs.Reading.{IsReached}
use Rattle.history_reading.proofs.reading.read_answers.Given as goal

abbrev pub invariant-loop-feed : goal.invariant-loop-feed
invariant-loop-feed l = record {
  reached : IsReached l.scene (take l.start l.text) l.count l.answers;
  within : l.start ≤ length l.text;
  few : l.count ≤ l.start;
}

abbrev pub decreases-loop-feed : goal.decreases-loop-feed
decreases-loop-feed l = length l.text - l.start

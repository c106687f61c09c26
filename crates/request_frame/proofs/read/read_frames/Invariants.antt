use Rattle.std.proofs.Common.{length}
use Rattle.request_frame.proofs.BytesRead.{ReadSoFar}
use Rattle.scene_text.specs.Reading.{IsReached}
use Rattle.request_frame.proofs.read.read_frames.Given as goal

abbrev pub invariant-loop-place : goal.invariant-loop-place
invariant-loop-place l = record {
  read : ReadSoFar l.bytes l.left l.reader;
  reached : IsReached l.reader;
}

abbrev pub decreases-loop-place : goal.decreases-loop-place
decreases-loop-place l = length l.left

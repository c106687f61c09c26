use Rattle.std.proofs.Common.{take, ◌≡◌}
use Rattle.request_frame.specs.FrameBytes.{row_bytes}
use Rattle.request_frame.proofs.read_frame.row_of.Given as goal

abbrev pub invariant-loop-byte : goal.invariant-loop-byte
invariant-loop-byte l = row_bytes l.row ≡ take l.byte-index l.bytes

use Rattle.std.specs.Prelude.{take, ◌≡◌}
use Rattle.request_frame.proofs.ops.short_text.Given as goal

abbrev pub invariant-loop-byte : goal.invariant-loop-byte
invariant-loop-byte l = l.text ≡ take l.byte-index l.bytes

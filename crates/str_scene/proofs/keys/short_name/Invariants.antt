use Rattle.std.specs.Prelude.{take, ◌≡◌}
use Rattle.str_scene.proofs.keys.short_name.Given as goal

abbrev pub invariant-loop-byte : goal.invariant-loop-byte
invariant-loop-byte l = l.name ≡ take l.byte-index l.bytes

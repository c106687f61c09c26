use Rattle.std.proofs.Common.{codes, flat_map, take, ◌++◌, ◌≡◌}
use Rattle.str_scene.specs.Spelling.{hex_byte}
use Rattle.str_scene.proofs.keys.push_bytes.Given as goal

abbrev pub invariant-loop-byte : goal.invariant-loop-byte
invariant-loop-byte l = l.out.items ≡ l.fn.out.items ++ (codes "x" ++ flat_map hex_byte (take l.byte-index l.bytes))

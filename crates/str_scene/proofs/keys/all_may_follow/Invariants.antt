use Rattle.std.specs.List.{list_all}
use Rattle.std.specs.Prelude.{drop, ◌≡◌}
use Rattle.str_scene.specs.SceneLimits.{in_name}
use Rattle.str_scene.proofs.keys.all_may_follow.Given as goal

abbrev pub invariant-loop-byte : goal.invariant-loop-byte
invariant-loop-byte l = list_all in_name (drop l.byte-index l.bytes) ≡ list_all in_name l.bytes

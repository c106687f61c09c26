use Rattle.std.proofs.Common.{length, true, ◌*◌, ◌+◌, ◌++◌, ◌≡◌, ◌≤◌}
use Rattle.std.specs.List.{list_all}
use Rattle.scene_text.specs.HexDigits.{is_hex, paired}
use Rattle.scene_text.proofs.keys.bytes_of_digits.Given as goal

abbrev pub invariant-loop-left : goal.invariant-loop-left
invariant-loop-left l = record {
  pairs : paired l.fn.digits ≡ l.bytes ++ paired l.left;
  few : 2 * length l.bytes + length l.left ≤ 128;
  hex : list_all is_hex l.left ≡ true;
}

abbrev pub decreases-loop-left : goal.decreases-loop-left
decreases-loop-left l = length l.left

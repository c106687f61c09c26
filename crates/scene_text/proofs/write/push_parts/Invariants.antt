use Rattle.std.proofs.Common.{flat_map, take, ◌++◌, ◌+◌, ◌≡◌}
use Rattle.str_scene.specs.Spelling.{ended, part_lines}
use Rattle.scene_text.proofs.write.push_parts.Given as goal

abbrev pub invariant-loop-row : goal.invariant-loop-row
invariant-loop-row l = record {
  next : l.number ≡ l.row-index + 1;
  text : l.out.items ≡ l.fn.out.items ++ flat_map ended (part_lines 1 (take l.row-index l.parts));
}

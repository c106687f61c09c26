use Rattle.std.proofs.Common.{length, map, take, ◌*◌, ◌≡◌, ◌≤◌}
use Rattle.request_frame.specs.FrameBytes.{script_bytes}
use Rattle.scene_text.specs.SceneLines.{op_line}
use Rattle.request_frame.proofs.write.script_of.Given as goal

abbrev pub invariant-loop-op : goal.invariant-loop-op
invariant-loop-op l = record {
  script : l.bytes.items ≡ script_bytes (map (op_line l.keys) (take l.op-index l.ops));
  few : length l.bytes.items ≤ 84 * l.op-index;
}

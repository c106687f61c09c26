use Rattle.std.proofs.Common.{ap, arith, length, length-append, map, take, take_all, ◌+◌, ◌∙◌}
use Rattle.std.proofs.lemmas.Grind.{common_steps}
use Rattle.request_frame.proofs.WritingParts.{script_written}
use Rattle.request_frame.specs.FrameBytes.{op_bytes, script_bytes}
use Rattle.scene_text.specs.SceneLines.{op_line}
use Rattle.request_frame.proofs.write.script_of.Goals as goal

pub loop-op-preserved : goal.loop-op-preserved
loop-op-preserved c = record {
  script = script_written c.args.keys.now c.as_slice-ops.result.now (take c.loop-op.op-index c.as_slice-ops.result.now) (take (c.loop-op.op-index + 1) c.as_slice-ops.result.now) _ c.in_ok-line.line
      c.loop-op.bytes.items c.push_op.new.out.items c.in_ok-line.ensures (grind (arith, common_steps)) c.loop-op.invariant.script c.in_ok-push_op.ensures.op;
  few = omega (arith, c.in_ok-push_op.ensures.few, c.loop-op.invariant.few, ap length c.in_ok-push_op.ensures.op, length-append c.loop-op.bytes.items (op_bytes c.in_ok-line.line));
}

pub returns-clause-script : goal.returns-clause-script
returns-clause-script c =
    c.loop-op.invariant.script
    ∙ ap (λ ops. script_bytes (map (op_line c.args.keys.now) ops)) (take_all c.loop-op.op-index c.as_slice-ops.result.now c.loop-op-test.false ∙ c.as_slice-ops.ensures.items)

pub returns-clause-few : goal.returns-clause-few
returns-clause-few c = omega (arith, c.loop-op.invariant.few, c.loop-op.auto.op-index-end, ap length c.as_slice-ops.ensures.items, c.as_slice-ops.ensures.limit)

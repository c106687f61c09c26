use Rattle.std.proofs.Common.{ap, length, ◌+◌, ◌∙◌}
use Rattle.scene_gen.proofs.Steps.{keys_end, keys_next, numbers_end, numbers_next}
use Rattle.std.proofs.lemmas.List.{length_push}
use Rattle.scene_gen.proofs.Rooms.{next_key}
use Rattle.scene_gen.proofs.made.all_numbered.Goals as goal

pub loop-op-preserved : goal.loop-op-preserved
loop-op-preserved c = record {
  long = ap length c.push.ensures ∙ length_push c.loop-op.ops c.in_ok-op.op ∙ ap (λ n. n + 1) c.loop-op.invariant.long;
  built = keys_next c.args.script.now c.loop-op.op-index _ c.loop-op.build c.numbered.new.build _ c.loop-op-test.true c.in_ok-op.ensures.added c.loop-op.invariant.built;
  ops = numbers_next c.args.script.now c.loop-op.op-index _ c.loop-op.ops c.push.new.self c.in_ok-op.op c.loop-op.build c.numbered.new.build _ c.loop-op-test.true
      c.in_ok-op.ensures.value c.in_ok-op.ensures.added c.push.ensures c.loop-op.invariant.ops;
}

pub returns-clause-value : goal.returns-clause-value
returns-clause-value c = numbers_end c.args.script.now c.loop-op.op-index c.loop-op.ops c.loop-op.build _ c.loop-op-test.false c.loop-op.invariant.ops

pub returns-clause-added : goal.returns-clause-added
returns-clause-added c = keys_end c.args.script.now c.loop-op.op-index c.loop-op.build _ c.loop-op-test.false c.loop-op.invariant.built

pub numbered-requires : goal.numbered-requires
numbered-requires c =
    next_key c.args.script.now c.loop-op.op-index _ c.loop-op.build _ c.loop-op-test.true c.loop-op.invariant.built c.requires.place c.requires.keys c.requires.room

use Rattle.std.proofs.Common.{List, ap, arith, drop, slice_get, sym, ◌+◌, ◌∙◌}
use Rattle.std.proofs.lemmas.Option.{slice_get-get_or}
use Rattle.history_audit.proofs.LoopSteps.{step_passed, step_stopped}
use Rattle.history_audit.specs.Ledgers.{look_in}
use Rattle.str_scene.specs.declared.names.Op.{Op}
use Rattle.history_audit.proofs.evaluations.evaluate.Goals as goal

pub loop-op-preserved : goal.loop-op-preserved
loop-op-preserved c =
    let ops = c.args.ops.now in
    let i = c.loop-op.op-index in
    let look = look_in c.args.ledger.now c.args.rs.0 in
    let e = ap (λ (xs : List Op). slice_get xs i) (sym c.as_slice-op-items.ensures.items) ∙ slice_get-get_or c.as_slice-op-items.result.now i _ c.loop-op-test.true in
    record {
      rest = step_passed look ops i _ c.loop-op.writes c.take_step.new.writes c.loop-op.gets c.take_step.new.gets c.operate-done.result e c.operate-done.ensures
          (c.in-None.ensures.after look (drop (i + 1) ops)) c.loop-op.invariant.rest;
      gets = omega (arith, c.in-None.ensures.gets);
      writes = omega (arith, c.in-None.ensures.writes);
    }

pub returns-in-Some : goal.returns-in-Some
returns-in-Some c =
    let ops = c.args.ops.now in
    let i = c.loop-op.op-index in
    let look = look_in c.args.ledger.now c.args.rs.0 in
    let e = ap (λ (xs : List Op). slice_get xs i) (sym c.as_slice-op-items.ensures.items) ∙ slice_get-get_or c.as_slice-op-items.result.now i _ c.loop-op-test.true in
    step_stopped look ops i _ c.loop-op.writes c.take_step.new.writes c.loop-op.gets c.take_step.new.gets c.operate-done.result c.in-Some.ending e c.operate-done.ensures
    (c.in-Some.ensures.after look (drop (i + 1) ops)) c.loop-op.invariant.rest

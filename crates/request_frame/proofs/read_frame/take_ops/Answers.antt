use Rattle.std.proofs.Common.{refl, subst}
use Rattle.std.proofs.lemmas.Result.{err_from_is_err_and}
use Rattle.request_frame.proofs.OpsRead.{none_left, ops_end, ops_long, ops_next, ops_none, ops_start, ops_stop, some_left}
use Rattle.request_frame.specs.Reading.{ReadsOp}
use Rattle.request_frame.proofs.read_frame.take_ops.Goals as goal

pub loop-left-init : goal.loop-left-init
loop-left-init c = ops_start c.args.payload.now c.args.reader.now c.requires.reached c.requires.script

pub unreachable-requires : goal.unreachable-requires
unreachable-requires c = ops_none c.args.payload.now c.loop-left.left.now c.args.reader.now c.loop-left.reader c.loop-left.invariant (some_left c.loop-left.left.now c.loop-left-test.ensures) (c.in_default.ensures.none refl)

pub unreachable-requires-in_default-op : goal.unreachable-requires-in_default-op
unreachable-requires-in_default-op c =
    ops_long c.args.payload.now c.loop-left.left.now c.in-Some.rest.now c.args.reader.now c.loop-left.reader c.loop-left.invariant (some_left c.loop-left.left.now c.loop-left-test.ensures)
    (subst (λ o. ReadsOp c.loop-left.left.now o c.in-Some.rest.now) c.in_default-op.is c.in-Some.ensures.op)

pub returns-in_err-step-clause-refused : goal.returns-in_err-step-clause-refused
returns-in_err-step-clause-refused c =
    let p = err_from_is_err_and c.from_residual.result c.from_residual.ensures.1 in
    rw (p.1, p.2) (ops_stop c.args.payload.now c.loop-left.left.now c.in-Some.rest.now c.args.reader.now c.loop-left.reader c.in-Some-op.op c.in_err-step.field-0.0 c.loop-left.invariant (some_left c.loop-left.left.now c.loop-left-test.ensures)
    (subst (λ o. ReadsOp c.loop-left.left.now o c.in-Some.rest.now) c.in-Some-op.is c.in-Some.ensures.op) c.in_err-step.ensures.refused)

pub loop-left-preserved : goal.loop-left-preserved
loop-left-preserved c =
    ops_next c.args.payload.now c.loop-left.left.now c.in-Some.rest.now c.args.reader.now c.loop-left.reader c.step.new.self c.in-Some-op.op c.loop-left.invariant (some_left c.loop-left.left.now c.loop-left-test.ensures)
    (subst (λ o. ReadsOp c.loop-left.left.now o c.in-Some.rest.now) c.in-Some-op.is c.in-Some.ensures.op) c.in_ok-step.ensures.taken c.in_ok-step.ensures.reached

pub returns-clause-taken : goal.returns-clause-taken
returns-clause-taken c = ops_end c.args.payload.now c.loop-left.left.now c.args.reader.now c.loop-left.reader c.loop-left.invariant (none_left c.loop-left.left.now c.loop-left-test.ensures)

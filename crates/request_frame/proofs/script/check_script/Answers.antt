use Rattle.std.proofs.Common.{refl, subst, sym, ◌&&◌, ◌∙◌}
use Rattle.request_frame.proofs.OpsRead.{ScriptSoFar, none_left, script_broken, script_empty, script_more, script_more_out, script_unknown, some_left}
use Rattle.request_frame.proofs.script.check_script.Goals as goal

pub returns-then-is_empty-clause-none : goal.returns-then-is_empty-clause-none
returns-then-is_empty-clause-none c = λ none. script_empty c.args.version c.args.payload.now (none_left c.args.payload.now c.if-is_empty.ensures)

pub returns-then-not-is_known-clause-none : goal.returns-then-not-is_known-clause-none
returns-then-not-is_known-clause-none c = λ none.
    script_unknown c.args.version c.args.parts c.args.payload.now c.loop-left.left.now c.loop-left.ranged (some_left c.loop-left.left.now c.loop-left-test.ensures) c.loop-left.invariant (λ op us h e. c.is_known.ensures op us h e ∙ c.if-not-is_known.true)

pub returns-in_err-op-clause-none : goal.returns-in_err-op-clause-none
returns-in_err-op-clause-none c = λ none.
    script_broken c.args.version c.args.parts c.args.payload.now c.loop-left.left.now c.loop-left.ranged (some_left c.loop-left.left.now c.loop-left-test.ensures) c.loop-left.invariant (c.in_err-op.ensures.none refl)

pub loop-left-preserved-then-ranged : goal.loop-left-preserved-then-ranged
loop-left-preserved-then-ranged c =
    subst (λ b. ScriptSoFar c.args.version c.args.parts c.args.payload.now c.in_ok-op.rest.now (b && c.is_ranged-ranged.result)) c.if-ranged.true
    (script_more c.args.version c.args.parts c.args.payload.now c.loop-left.left.now c.in_ok-op.rest.now c.loop-left.ranged c.is_ranged-ranged.result c.in_ok-op.op c.loop-left.invariant c.in_ok-op.ensures.op (λ op us h e. c.is_known.ensures op us h e ∙ c.if-not-is_known.false) c.is_ranged-ranged.ensures)

pub loop-left-preserved : goal.loop-left-preserved
loop-left-preserved c =
    let before = subst (ScriptSoFar c.args.version c.args.parts c.args.payload.now c.loop-left.left.now) c.if-ranged.false c.loop-left.invariant in
    subst (ScriptSoFar c.args.version c.args.parts c.args.payload.now c.in_ok-op.rest.now) (sym c.if-ranged.false)
    (script_more_out c.args.version c.args.parts c.args.payload.now c.loop-left.left.now c.in_ok-op.rest.now c.in_ok-op.op before c.in_ok-op.ensures.op (λ op us h e. c.is_known.ensures op us h e ∙ c.if-not-is_known.false))

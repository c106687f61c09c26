use Rattle.std.proofs.Common.{ap, false, refl, sym, true, ◌∙◌}
use Rattle.std.proofs.lemmas.Result.{err_from_is_err_and}
use Rattle.request_frame.proofs.TxFrames.{no_script, ops_bad, ops_takes, script_of, short_script, tx_misplaced, tx_out_of_range, tx_refused}
use Rattle.scene_text.specs.LineOrder.{tx_follows}
use Rattle.scene_text.specs.declared.lines.Line.TheVariants.{Tx as LTx}
use Rattle.request_frame.proofs.read_frame.tx_frame.Goals as goal

pub returns-in_default-clause-bad : goal.returns-in_default-clause-bad
returns-in_default-clause-bad c = no_script c.args.reader.now c.version.result c.args.payload.now c.version.ensures (c.in_default.ensures.none refl)

pub returns-in_default-follows-clause-bad : goal.returns-in_default-follows-clause-bad
returns-in_default-follows-clause-bad c =
    tx_misplaced c.args.reader.now c.args.payload.now (ap tx_follows (sym c.place.ensures) ∙ (sym (c.follows.ensures LTx refl) ∙ c.in_default-follows.is))

pub returns-then-not-ranged-clause-bad : goal.returns-then-not-ranged-clause-bad
returns-then-not-ranged-clause-bad c =
    tx_out_of_range c.args.reader.now c.args.payload.now
    (script_of c.args.reader.now c.version.result c.parts.result c.args.payload.now c.in-Some.ranged false c.in-Some-follows.field-0 c.version.ensures c.parts.ensures.value c.in-Some.ensures.script c.if-not-ranged.true
    (ap tx_follows (sym c.place.ensures) ∙ (sym (c.follows.ensures LTx refl) ∙ c.in-Some-follows.is)))

pub returns-in_err-step-clause-bad : goal.returns-in_err-step-clause-bad
returns-in_err-step-clause-bad c =
    let p = err_from_is_err_and c.from_residual.result c.from_residual.ensures.1 in
    rw (p.1, p.2) (tx_refused c.args.reader.now c.args.payload.now c.in_err-step.field-0.0
    (script_of c.args.reader.now c.version.result c.parts.result c.args.payload.now c.in-Some.ranged true c.in-Some-follows.field-0 c.version.ensures c.parts.ensures.value c.in-Some.ensures.script c.if-not-ranged.false
    (ap tx_follows (sym c.place.ensures) ∙ (sym (c.follows.ensures LTx refl) ∙ c.in-Some-follows.is)))
    c.in_err-step.ensures.refused)

pub take_ops-requires-clause-script : goal.take_ops-requires-clause-script
take_ops-requires-clause-script c =
    short_script c.args.reader.now c.args.payload.now c.requires
    (script_of c.args.reader.now c.version.result c.parts.result c.args.payload.now c.in-Some.ranged true c.in-Some-follows.field-0 c.version.ensures c.parts.ensures.value c.in-Some.ensures.script c.if-not-ranged.false
    (ap tx_follows (sym c.place.ensures) ∙ (sym (c.follows.ensures LTx refl) ∙ c.in-Some-follows.is)))

pub returns-clause-taken : goal.returns-clause-taken
returns-clause-taken c =
    ops_takes c.args.reader.now c.step.new.self c.take_ops.new.reader c.args.payload.now c.take_ops.result
    (script_of c.args.reader.now c.version.result c.parts.result c.args.payload.now c.in-Some.ranged true c.in-Some-follows.field-0 c.version.ensures c.parts.ensures.value c.in-Some.ensures.script c.if-not-ranged.false
    (ap tx_follows (sym c.place.ensures) ∙ (sym (c.follows.ensures LTx refl) ∙ c.in-Some-follows.is)))
    c.in_ok-step.ensures.taken c.take_ops.ensures.taken

pub returns-clause-bad : goal.returns-clause-bad
returns-clause-bad c =
    ops_bad c.args.reader.now c.step.new.self c.args.payload.now c.take_ops.result
    (script_of c.args.reader.now c.version.result c.parts.result c.args.payload.now c.in-Some.ranged true c.in-Some-follows.field-0 c.version.ensures c.parts.ensures.value c.in-Some.ensures.script c.if-not-ranged.false
    (ap tx_follows (sym c.place.ensures) ∙ (sym (c.follows.ensures LTx refl) ∙ c.in-Some-follows.is)))
    c.in_ok-step.ensures.taken c.take_ops.ensures.refused

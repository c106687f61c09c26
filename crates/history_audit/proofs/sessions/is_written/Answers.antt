use Rattle.std.proofs.Common.{List, ap, length, slice_get, subst, sym, ◌∙◌, ◌≤◌}
use Rattle.std.proofs.lemmas.Option.{slice_get-get_or}
use Rattle.history_audit.proofs.Walks.{any_end, any_here, any_next}
use Rattle.history_audit.specs.Tests.{is_key, written_key}
use Rattle.str_scene.specs.declared.names.Op.{Op}
use Rattle.history_audit.proofs.sessions.is_written.Goals as goal

pub returns-then-writes_key : goal.returns-then-writes_key
returns-then-writes_key c =
    let i = c.loop-op.op-index in
    let e = ap (λ (xs : List Op). slice_get xs i) (sym c.as_slice-op-items.ensures.items) ∙ slice_get-get_or c.as_slice-op-items.result.now i _ c.loop-op-test.true in
    any_here (λ (op : Op). is_key c.args.key (written_key op)) c.args.ops.now i _ e (sym c.writes_key.ensures ∙ c.if-writes_key.true) c.loop-op.invariant

pub loop-op-preserved : goal.loop-op-preserved
loop-op-preserved c =
    let i = c.loop-op.op-index in
    let e = ap (λ (xs : List Op). slice_get xs i) (sym c.as_slice-op-items.ensures.items) ∙ slice_get-get_or c.as_slice-op-items.result.now i _ c.loop-op-test.true in
    any_next (λ (op : Op). is_key c.args.key (written_key op)) c.args.ops.now i _ e (sym c.writes_key.ensures ∙ c.if-writes_key.false) c.loop-op.invariant

pub returns : goal.returns
returns c =
    any_end (λ (op : Op). is_key c.args.key (written_key op)) c.args.ops.now c.loop-op.op-index
    (subst (λ (xs : List Op). length xs ≤ c.loop-op.op-index) c.as_slice-op-items.ensures.items c.loop-op-test.false) c.loop-op.invariant

use Rattle.std.proofs.Common.{length, refl, sym, ◌∙◌}
use Rattle.std.proofs.lemmas.Option.{slice_get_read}
use Rattle.history_audit.proofs.Walks.{all_end, all_fails, all_next}
use Rattle.history_audit.specs.Tests.{is_after}
use Rattle.history_audit.proofs.sessions.keeps_order.Goals as goal

pub returns-then-not-is_after : goal.returns-then-not-is_after
returns-then-not-is_after c =
    all_fails (is_after c.args.answer.now) c.args.earlier.now c.loop-other.other-index c.other-item.result
    (slice_get_read c.args.earlier.now (length c.args.earlier.now) c.loop-other.other-index c.other-item.result refl c.loop-other-test.true c.other-item.is)
    (sym c.is_after.ensures ∙ c.if-not-is_after.true) c.loop-other.invariant

pub loop-other-preserved : goal.loop-other-preserved
loop-other-preserved c =
    all_next (is_after c.args.answer.now) c.args.earlier.now c.loop-other.other-index c.other-item.result
    (slice_get_read c.args.earlier.now (length c.args.earlier.now) c.loop-other.other-index c.other-item.result refl c.loop-other-test.true c.other-item.is)
    (sym c.is_after.ensures ∙ c.if-not-is_after.false) c.loop-other.invariant

pub returns : goal.returns
returns c = all_end (is_after c.args.answer.now) c.args.earlier.now c.loop-other.other-index c.loop-other-test.false c.loop-other.invariant

use Rattle.std.proofs.Common.{length, refl, sym, ◌∙◌}
use Rattle.std.proofs.lemmas.Option.{slice_get_read}
use Rattle.history_audit.proofs.Walks.{all_end, all_fails, all_next}
use Rattle.history_audit.specs.Tests.{are_apart}
use Rattle.history_audit.proofs.sessions.overlaps_none.Goals as goal

pub returns-then-not-are_apart : goal.returns-then-not-are_apart
returns-then-not-are_apart c =
    all_fails (are_apart c.args.scene.now c.args.answer.now) c.args.earlier.now c.loop-other.other-index c.other-item.result
    (slice_get_read c.args.earlier.now (length c.args.earlier.now) c.loop-other.other-index c.other-item.result refl c.loop-other-test.true c.other-item.is)
    (sym c.are_apart.ensures ∙ c.if-not-are_apart.true) c.loop-other.invariant

pub loop-other-preserved : goal.loop-other-preserved
loop-other-preserved c =
    all_next (are_apart c.args.scene.now c.args.answer.now) c.args.earlier.now c.loop-other.other-index c.other-item.result
    (slice_get_read c.args.earlier.now (length c.args.earlier.now) c.loop-other.other-index c.other-item.result refl c.loop-other-test.true c.other-item.is)
    (sym c.are_apart.ensures ∙ c.if-not-are_apart.false) c.loop-other.invariant

pub returns : goal.returns
returns c = all_end (are_apart c.args.scene.now c.args.answer.now) c.args.earlier.now c.loop-other.other-index c.loop-other-test.false c.loop-other.invariant

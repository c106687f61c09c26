use Rattle.std.proofs.Common.{length, refl, sym, ◌∙◌}
use Rattle.std.proofs.lemmas.Option.{slice_get_read}
use Rattle.history_audit.proofs.Walks.{all_end, all_fails, all_next}
use Rattle.history_audit.specs.Tests.{is_other}
use Rattle.history_audit.proofs.places.is_new.Goals as goal

pub returns-then-not-is_other : goal.returns-then-not-is_other
returns-then-not-is_other c =
    all_fails (is_other c.args.answer.now) c.args.earlier.now c.loop-other.other-index c.other-item.result
    (slice_get_read c.args.earlier.now (length c.args.earlier.now) c.loop-other.other-index c.other-item.result refl c.loop-other-test.true c.other-item.is)
    (sym c.is_other.ensures ∙ c.if-not-is_other.true) c.loop-other.invariant

pub loop-other-preserved : goal.loop-other-preserved
loop-other-preserved c =
    all_next (is_other c.args.answer.now) c.args.earlier.now c.loop-other.other-index c.other-item.result
    (slice_get_read c.args.earlier.now (length c.args.earlier.now) c.loop-other.other-index c.other-item.result refl c.loop-other-test.true c.other-item.is)
    (sym c.is_other.ensures ∙ c.if-not-is_other.false) c.loop-other.invariant

pub returns : goal.returns
returns c = all_end (is_other c.args.answer.now) c.args.earlier.now c.loop-other.other-index c.loop-other-test.false c.loop-other.invariant

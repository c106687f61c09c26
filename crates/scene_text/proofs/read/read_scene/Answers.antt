use Rattle.std.proofs.Common.{arith, rules, slice_range}
use Rattle.std.proofs.lemmas.Grind.{common_steps}
use Rattle.scene_text.proofs.Taking.Finished.{end_finishes}
use Rattle.scene_text.proofs.FirstBad.FirstLine.{all_read, fault_bad, next_reached}
use Rattle.scene_text.proofs.FirstBad.ReaderKnows.{bad_end, bad_tail, end_text}
use Rattle.scene_text.proofs.read.read_scene.Goals as goal

pub returns-in-Err-clause-bad : goal.returns-in-Err-clause-bad
returns-in-Err-clause-bad c =
    rw c.fault_at.ensures (fault_bad c.args.text.now c.loop-feed.start c.loop-feed.count (slice_range c.args.text.now c.loop-feed.start c.in-Some.feed) _ c.loop-feed.reader c.in-Err.fault c.loop-feed.invariant.reached c.in-Some.ensures.line c.in-Some.ensures.parts c.in-Err.ensures.bad)

pub loop-feed-preserved : goal.loop-feed-preserved
loop-feed-preserved c =
    record {
      reached = next_reached c.args.text.now c.loop-feed.start c.in-Some.feed c.loop-feed.count (slice_range c.args.text.now c.loop-feed.start c.in-Some.feed) c.loop-feed.reader c.take.new.self c.loop-feed.invariant.reached c.in-Some.ensures.passed c.in_default-take.ensures.taken;
      within = omega (arith, c.in-Some.ensures.within);
      few = omega (arith, c.in-Some.ensures.after);
    }

pub returns-then-start-text-clause-bad : goal.returns-then-start-text-clause-bad
returns-then-start-text-clause-bad c =
    bad_tail c.args.text.now c.loop-feed.start c.loop-feed.count c.loop-feed.reader c.loop-feed.invariant.reached c.if-start-text.true (c.in_default.ensures.none (search rules))

pub returns-then-not-is_at_end-clause-bad : goal.returns-then-not-is_at_end-clause-bad
returns-then-not-is_at_end-clause-bad c =
    bad_end c.args.text.now c.loop-feed.count c.loop-feed.reader (all_read c.args.text.now c.loop-feed.start c.loop-feed.count c.loop-feed.reader (omega arith) c.loop-feed.invariant.reached)
    (λ e. grind (arith, common_steps, c.is_at_end.ensures.1 e))

pub finish-requires : goal.finish-requires
finish-requires c =
    end_finishes c.args.text.now c.loop-feed.count c.loop-feed.reader (all_read c.args.text.now c.loop-feed.start c.loop-feed.count c.loop-feed.reader (omega arith) c.loop-feed.invariant.reached)
    (c.is_at_end.ensures.0 (grind (arith, common_steps)))

pub returns-clause-read : goal.returns-clause-read
returns-clause-read c =
    rw c.finish.ensures (end_text c.args.text.now c.loop-feed.count c.loop-feed.reader (all_read c.args.text.now c.loop-feed.start c.loop-feed.count c.loop-feed.reader (omega arith) c.loop-feed.invariant.reached)
    (c.is_at_end.ensures.0 (grind (arith, common_steps)))).1

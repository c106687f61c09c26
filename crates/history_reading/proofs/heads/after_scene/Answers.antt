use Rattle.std.proofs.Common.{arith, rules, slice_range}
use Rattle.history_reading.proofs.HeadsFound.{head_begins, head_ends, head_goes_on, head_open}
use Rattle.history_reading.proofs.heads.after_scene.Goals as goal

pub loop-feed-init : goal.loop-feed-init
loop-feed-init c = record { so_far = head_begins c.args.text.now; within = omega arith; few = omega arith }

pub returns-then-is_end-clause-head : goal.returns-then-is_end-clause-head
returns-then-is_end-clause-head c =
    head_ends c.args.text.now c.loop-feed.start c.in-Some.feed c.loop-feed.count (slice_range c.args.text.now c.loop-feed.start c.in-Some.feed) c.loop-feed.invariant.so_far c.in-Some.ensures.passed c.in-Some.ensures.line (c.is_same-is_end.ensures.0 c.if-is_end.true)

pub loop-feed-preserved : goal.loop-feed-preserved
loop-feed-preserved c = record {
  so_far =
      head_goes_on c.args.text.now c.loop-feed.start c.in-Some.feed c.loop-feed.count (slice_range c.args.text.now c.loop-feed.start c.in-Some.feed) c.loop-feed.invariant.so_far c.in-Some.ensures.passed c.in-Some.ensures.line
      (λ e. cc (c.is_same-is_end.ensures.1 e, c.if-is_end.false));
  within = omega (arith, c.in-Some.ensures.within);
  few = omega (arith, c.in-Some.ensures.after);
}

pub returns-clause-head : goal.returns-clause-head
returns-clause-head c = head_open c.args.text.now c.loop-feed.start c.loop-feed.count c.loop-feed.invariant.so_far (c.in_default.ensures.none (search rules))

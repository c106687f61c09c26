use Rattle.std.proofs.Common.{arith, rules, slice_range, take}
use Rattle.std.proofs.lemmas.Grind.{common_steps}
use Rattle.history_reading.proofs.HeadsFound.{head_count}
use Rattle.history_reading.proofs.LinesTaken.{all_taken, end_bad, line_bad, reached_all, reached_next, reached_start, tail_bad}
use Rattle.history_reading.proofs.reading.read_answers.Goals as goal

pub loop-feed-init : goal.loop-feed-init
loop-feed-init c = record {
  reached =
      reached_start c.args.scene.now (take c.args.start c.args.text.now) c.args.count c.new-answers.result c.requires.scene (head_count c.args.text.now c.args.start c.args.count c.args.scene.now c.requires.head c.keys.ensures.limits c.requires.scene)
      c.new-answers.ensures.list c.new-answers.ensures.commits c.new-answers.ensures.not_ended;
  within = c.requires.within;
  few = c.requires.few;
}

pub take-requires-clause-counted : goal.take-requires-clause-counted
take-requires-clause-counted c = record { few = c.loop-feed.invariant.reached.are_read.answers_are.few; commits = c.loop-feed.invariant.reached.commits }

pub returns-in-Err-clause-bad : goal.returns-in-Err-clause-bad
returns-in-Err-clause-bad c =
    rw c.fault_at.ensures (line_bad c.args.scene.now c.args.text.now c.loop-feed.start c.loop-feed.count (slice_range c.args.text.now c.loop-feed.start c.in-Some.feed) _ c.loop-feed.answers c.in-Err.fault c.keys.ensures.limits
    c.loop-feed.invariant.reached c.in-Some.ensures.line c.in-Some.ensures.parts c.in-Err.ensures.bad)

pub loop-feed-preserved : goal.loop-feed-preserved
loop-feed-preserved c = record {
  reached =
      reached_next c.args.scene.now c.args.text.now c.loop-feed.start c.in-Some.feed c.loop-feed.count (slice_range c.args.text.now c.loop-feed.start c.in-Some.feed) c.loop-feed.answers c.take.new.self c.loop-feed.invariant.reached
      c.in-Some.ensures.passed c.in_default-take.ensures.taken;
  within = omega (arith, c.in-Some.ensures.within);
  few = omega (arith, c.in-Some.ensures.after);
}

pub returns-then-start-text-clause-bad : goal.returns-then-start-text-clause-bad
returns-then-start-text-clause-bad c =
    tail_bad c.args.scene.now c.args.text.now c.loop-feed.start c.loop-feed.count c.loop-feed.answers c.keys.ensures.limits c.loop-feed.invariant.reached c.if-start-text.true (c.in_default-next_feed.ensures.none (search rules))

pub returns-then-not-answers-clause-bad : goal.returns-then-not-answers-clause-bad
returns-then-not-answers-clause-bad c =
    end_bad c.args.scene.now c.args.text.now c.loop-feed.count c.loop-feed.answers c.keys.ensures.limits (reached_all c.args.scene.now c.args.text.now c.loop-feed.start c.loop-feed.count c.loop-feed.answers (omega arith) c.loop-feed.invariant.reached)
    (grind (arith, common_steps))

pub returns-clause-read : goal.returns-clause-read
returns-clause-read c =
    all_taken c.args.scene.now c.args.text.now c.loop-feed.count c.loop-feed.answers c.keys.ensures.limits (reached_all c.args.scene.now c.args.text.now c.loop-feed.start c.loop-feed.count c.loop-feed.answers (omega arith) c.loop-feed.invariant.reached)
    (grind (arith, common_steps))

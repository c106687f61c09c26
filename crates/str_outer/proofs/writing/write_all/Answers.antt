use Rattle.std.proofs.Common.{arith, length-drop, length-take, drop, length, ◌-◌}
use Rattle.str_outer.proofs.Joined.{wrote_more}
use Rattle.str_outer.proofs.writing.write_all.Goals as goal

pub loop-at-preserved : goal.loop-at-preserved
loop-at-preserved g c = record {
  in_range = omega (arith, c.in_ok-at.ensures.bound, length-drop c.loop-at.at c.args.text.now, length-take (length c.args.text.now - c.loop-at.at) (drop c.loop-at.at c.args.text.now));
  took = wrote_more _ _ _ c.loop-at.at c.in_ok-at.field-0 c.args.text.now c.loop-at.invariant.took c.in_ok-at.ensures.bytes;
  faults = omega (arith, c.in_ok-at.ensures.cause.faults_later);
  wants = omega (arith, c.in_ok-at.ensures.cause.wants_later);
}

use Rattle.std.proofs.Common.{arith}
use Rattle.std.proofs.lemmas.Grind.{common_steps}
use Rattle.request_frame.proofs.SimpleFrames.{end_bad, end_takes}
use Rattle.request_frame.proofs.read_frame.end_frame.Goals as goal

pub returns-clause-taken : goal.returns-clause-taken
returns-clause-taken c = end_takes c.args.reader.now c.begin_schedule.new.reader c.step.new.self c.args.payload.now c.step.result c.in_ok-begin_schedule.ensures.begun c.step.ensures.taken (grind (arith, common_steps))

pub returns-clause-bad : goal.returns-clause-bad
returns-clause-bad c = end_bad c.args.reader.now c.begin_schedule.new.reader c.args.payload.now c.step.result c.in_ok-begin_schedule.ensures.begun c.step.ensures.refused (grind (arith, common_steps))

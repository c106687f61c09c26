use Rattle.std.proofs.Common.{arith}
use Rattle.request_frame.proofs.SimpleFrames.{deliver_bad, deliver_takes}
use Rattle.request_frame.proofs.read_frame.deliver_frame.Goals as goal

pub returns-clause-taken : goal.returns-clause-taken
returns-clause-taken c =
    deliver_takes c.args.reader.now c.begin_schedule.new.reader c.step.new.self c.args.payload.now c.in-Some.index c.step.result c.in_ok-begin_schedule.ensures.begun c.step.ensures.taken c.in-Some.ensures.number (omega arith)

pub returns-clause-bad : goal.returns-clause-bad
returns-clause-bad c =
    deliver_bad c.args.reader.now c.begin_schedule.new.reader c.args.payload.now c.in-Some.index c.step.result c.in_ok-begin_schedule.ensures.begun c.step.ensures.refused c.in-Some.ensures.number (omega arith)

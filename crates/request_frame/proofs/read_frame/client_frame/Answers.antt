use Rattle.std.proofs.Common.{arith}
use Rattle.request_frame.proofs.BytesParts.{one_and_rest}
use Rattle.request_frame.specs.FrameBytes.{number_bytes}
use Rattle.request_frame.proofs.SimpleFrames.{client_bad, client_takes}
use Rattle.request_frame.proofs.read_frame.client_frame.Goals as goal

pub returns-clause-taken : goal.returns-clause-taken
returns-clause-taken c =
    client_takes c.args.reader.now c.begin_schedule.new.reader c.step.new.self c.args.payload.now _ c.in-Some.reading c.step.result c.in_ok-begin_schedule.ensures.begun c.step.ensures.taken
    (one_and_rest c.args.payload.now (number_bytes c.in-Some.reading) c.in-len1-up.len_at_least c.in-Some.ensures.number) (omega arith)

pub returns-clause-bad : goal.returns-clause-bad
returns-clause-bad c =
    client_bad c.args.reader.now c.begin_schedule.new.reader c.args.payload.now _ c.in-Some.reading c.step.result c.in_ok-begin_schedule.ensures.begun c.step.ensures.refused
    (one_and_rest c.args.payload.now (number_bytes c.in-Some.reading) c.in-len1-up.len_at_least c.in-Some.ensures.number) (omega arith)

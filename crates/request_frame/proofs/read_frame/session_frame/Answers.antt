use Rattle.std.proofs.Common.{arith}
use Rattle.std.proofs.lemmas.Grind.{common_steps}
use Rattle.request_frame.proofs.SimpleFrames.{session_bad, session_takes}
use Rattle.request_frame.proofs.read_frame.session_frame.Goals as goal

pub returns-clause-taken : goal.returns-clause-taken
returns-clause-taken c = session_takes c.args.reader.now c.step.new.self c.args.payload.now _ c.step.result c.step.ensures.taken (grind (arith, common_steps))

pub returns-clause-bad : goal.returns-clause-bad
returns-clause-bad c = session_bad c.args.reader.now c.args.payload.now _ c.step.result c.step.ensures.refused (grind (arith, common_steps))

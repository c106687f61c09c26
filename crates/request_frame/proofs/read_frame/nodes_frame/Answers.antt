use Rattle.std.proofs.Common.{arith, get_or}
use Rattle.std.proofs.lemmas.Grind.{common_steps}
use Rattle.request_frame.proofs.SimpleFrames.{nodes_bad, nodes_takes}
use Rattle.request_frame.proofs.read_frame.nodes_frame.Goals as goal

pub returns-clause-taken : goal.returns-clause-taken
returns-clause-taken c = nodes_takes c.args.reader.now c.step.new.self c.args.payload.now (get_or c.args.payload.now 0 0) c.step.result c.step.ensures.taken (grind (arith, common_steps))

pub returns-clause-bad : goal.returns-clause-bad
returns-clause-bad c = nodes_bad c.args.reader.now c.args.payload.now (get_or c.args.payload.now 0 0) c.step.result c.step.ensures.refused (grind (arith, common_steps))

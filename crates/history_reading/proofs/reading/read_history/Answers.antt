use Rattle.history_reading.proofs.BadScenes.{fault_scene}
use Rattle.history_reading.proofs.reading.read_history.Goals as goal

pub returns-in-Err-clause-bad : goal.returns-in-Err-clause-bad
returns-in-Err-clause-bad c = rw c.scene_fault.ensures (fault_scene c.args.bytes.now c.after_scene-start.result.0 c.after_scene-start.result.1 c.in-Err.fault c.after_scene-start.ensures.head c.in-Err.ensures.bad)

use Rattle.std.proofs.Common.{arith, subst, sym}
use Rattle.std.proofs.lemmas.Grind.{common_steps}
use Rattle.request_frame.proofs.WritingParts.{scene_is, scene_spelled}
use Rattle.request_frame.specs.Writing.{IsSpelled}
use Rattle.request_frame.proofs.write.write_frames.Goals as goal

pub push_sessions-requires : goal.push_sessions-requires
push_sessions-requires c = subst IsSpelled (sym c.keys.ensures.value) (scene_spelled c.args.scene.now c.keys.ensures.limits)

pub returns : goal.returns
returns c = let whole = scene_is c.args.scene.now in rw whole (grind (arith, common_steps))

use Rattle.std.proofs.Common.{arith}
use Rattle.std.proofs.lemmas.Grind.{common_steps}
use Rattle.scene_text.proofs.Spelling.TextParts.{scene_written}
use Rattle.scene_text.proofs.write.write_scene.Goals as goal

pub returns : goal.returns
returns c = let whole = scene_written c.args.scene.now in rw whole (grind (arith, common_steps))

use Rattle.scene_gen.proofs.MadeLimits.{made_holds}
use Rattle.scene_gen.proofs.laws.limits_hold.Goals as goal

pub returns : goal.returns
returns c = λ seed l. made_holds seed

use Rattle.scene_gen.proofs.Allowed.{memory_alone}
use Rattle.scene_gen.proofs.made.number_of.Goals as goal

pub returns-clause-refused : goal.returns-clause-refused
returns-clause-refused c = memory_alone _ _ c.requires c.key.ensures.refused

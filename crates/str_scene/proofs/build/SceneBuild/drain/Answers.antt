use Rattle.str_scene.specs.contracts.build.SceneBuild.{the_view}
use Rattle.str_scene.proofs.Drafting.{draft-drain}
use Rattle.str_scene.proofs.build.SceneBuild.drain.Goals as goal

pub invariant_of-self : goal.invariant_of-self
invariant_of-self c = draft-drain (the_view c.self.inside) c.self.invariant

use Rattle.std.proofs.Common.{None, subst, sym, ◌≡◌, ◌∙◌}
use Rattle.str_scene.specs.Refusals.{finish_fault}
use Rattle.str_scene.specs.contracts.build.SceneBuild.{the_view}
use Rattle.str_scene.proofs.Filling.{draft-scene}
use Rattle.str_scene.proofs.build.SceneBuild.finish.Goals as goal

pub new-requires : goal.new-requires
new-requires c =
    draft-scene (the_view c.self.inside) c.self.invariant
    (subst (λ d. finish_fault d ≡ None) (sym c.self.view_is) (sym c.finish_fault.ensures ∙ c.in_default.is))

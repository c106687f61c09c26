use Rattle.std.proofs.Common.{None, subst, sym, ◌≡◌, ◌∙◌}
use Rattle.str_scene.specs.Refusals.{key_fault}
use Rattle.str_scene.specs.contracts.build.SceneBuild.{the_view}
use Rattle.str_scene.proofs.Filling.{draft-key}
use Rattle.str_scene.proofs.build.SceneBuild.key.Goals as goal

pub invariant_of-self-2 : goal.invariant_of-self-2
invariant_of-self-2 c =
    rw c.in-Ok.ensures.added
    (draft-key (c.args.name.now, c.args.part) (the_view c.self.inside) c.self.invariant
    (subst (λ d. key_fault (c.args.name.now, c.args.part) d ≡ None) (sym c.self.view_is) (sym c.key_fault.ensures ∙ c.in_default.is)))

use Rattle.std.proofs.Common.{None, subst, sym, ◌≡◌, ◌∙◌}
use Rattle.str_scene.specs.Refusals.{part_fault}
use Rattle.str_scene.specs.contracts.build.SceneBuild.{the_view}
use Rattle.str_scene.proofs.Drafting.{draft-row}
use Rattle.str_scene.proofs.build.SceneBuild.part.Goals as goal

pub invariant_of-self-2 : goal.invariant_of-self-2
invariant_of-self-2 c =
    rw c.in-Ok.ensures.items
    (draft-row c.args.row (the_view c.self.inside) c.self.invariant c.part_fault.ensures.limit
    (subst (λ d. part_fault c.args.row d ≡ None) (sym c.self.view_is) (sym c.part_fault.ensures.fault ∙ c.in_default.is)))

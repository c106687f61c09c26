use Rattle.std.proofs.Common.{None, subst, sym, ◌≡◌, ◌∙◌}
use Rattle.str_scene.specs.Refusals.{entry_fault}
use Rattle.str_scene.specs.contracts.build.SceneBuild.{the_view}
use Rattle.str_scene.proofs.Drafting.{draft-entry}
use Rattle.str_scene.proofs.build.SceneBuild.entry.Goals as goal

pub invariant_of-self-2 : goal.invariant_of-self-2
invariant_of-self-2 c =
    rw c.in-Ok.ensures.items
    (draft-entry c.args.event (the_view c.self.inside) c.self.invariant c.entry_fault.ensures.numbers
    (subst (λ d. entry_fault c.args.event d ≡ None) (sym c.self.view_is) (sym c.entry_fault.ensures.fault ∙ c.in_default.is)))

use Rattle.std.proofs.Common.{None, subst, sym, ◌≡◌, ◌∙◌}
use Rattle.str_scene.specs.Refusals.{nodes_fault}
use Rattle.str_scene.specs.contracts.build.SceneBuild.{the_view}
use Rattle.str_scene.proofs.Drafting.{draft-nodes}
use Rattle.str_scene.proofs.build.SceneBuild.nodes.Goals as goal

pub invariant_of-self : goal.invariant_of-self
invariant_of-self c =
    draft-nodes c.args.n (the_view c.self.inside) c.self.invariant
    (subst (λ d. nodes_fault c.args.n d ≡ None) (sym c.self.view_is) (sym c.nodes_fault.ensures ∙ c.in_default.is))

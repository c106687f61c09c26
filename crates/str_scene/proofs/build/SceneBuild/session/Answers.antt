use Rattle.std.proofs.Common.{None, subst, sym, ◌≡◌, ◌∙◌}
use Rattle.str_scene.specs.Refusals.{session_fault}
use Rattle.str_scene.specs.contracts.build.SceneBuild.{the_view}
use Rattle.str_scene.proofs.Drafting.{draft-session}
use Rattle.str_scene.proofs.build.SceneBuild.session.Goals as goal

pub invariant_of-self-2 : goal.invariant_of-self-2
invariant_of-self-2 c =
    rw (c.in-Ok.ensures.items, c.new-session.ensures, c.new.ensures.items)
    (draft-session c.args.node (the_view c.self.inside) c.self.invariant
    (subst (λ d. session_fault c.args.node d ≡ None) (sym c.self.view_is) (sym c.session_fault.ensures ∙ c.in_default.is)))

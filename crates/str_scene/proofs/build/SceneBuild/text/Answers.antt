use Rattle.std.proofs.Common.{None, subst, sym, ◌≡◌, ◌∙◌}
use Rattle.str_scene.proofs.Checked.{all_bytes}
use Rattle.str_scene.specs.Refusals.{text_fault}
use Rattle.str_scene.specs.contracts.build.SceneBuild.{the_view}
use Rattle.str_scene.proofs.Filling.{draft-text}
use Rattle.str_scene.proofs.build.SceneBuild.text.Goals as goal

pub invariant_of-self-2 : goal.invariant_of-self-2
invariant_of-self-2 c =
    rw c.in-Ok.ensures.added
    (draft-text c.args.bytes.now (the_view c.self.inside) c.self.invariant (all_bytes c.args.bytes.now (λ k. (c.type_inv.bytes k).fits))
    (subst (λ d. text_fault c.args.bytes.now d ≡ None) (sym c.self.view_is) (sym c.text_fault.ensures ∙ c.in_default.is)))

use Rattle.std.proofs.Common.{None, subst, sym, ◌≡◌, ◌∙◌}
use Rattle.str_scene.specs.Refusals.{tx_fault}
use Rattle.str_scene.specs.contracts.build.SceneBuild.{the_view}
use Rattle.str_scene.proofs.Filling.{draft-tx}
use Rattle.str_scene.proofs.build.SceneBuild.tx.Goals as goal

pub invariant_of-self-2 : goal.invariant_of-self-2
invariant_of-self-2 c =
    rw c.in-Ok.ensures.ok
    (draft-tx c.args.ops (the_view c.self.inside) c.self.invariant (rw c.in_default.is at c.tx_fault.ensures.numbers) c.tx_fault.ensures.limit
    (subst (λ d. tx_fault c.args.ops d ≡ None) (sym c.self.view_is) (sym c.tx_fault.ensures.fault ∙ c.in_default.is)))

use Rattle.std.proofs.Common.{List, ap, arith, sym, ◌∙◌}
use Rattle.str_base.specs.declared.names.Version.{Version}
use Rattle.str_base.specs.Versions.{of_pair, without}
use Rattle.version_chain.specs.Undecided.{undecided_of}
use Rattle.version_chain.proofs.Deciding.{without_undecided}
use Rattle.version_chain.proofs.chains.Chains.remove.Goals as goal

pub invariant_of-self : goal.invariant_of-self
invariant_of-self c =
    let vs = c.self.inside.all.versions in
    let test = of_pair c.args.tx c.args.part in
    let i = c.self.invariant in
    record {
      order = c.remove.ensures.order.1;
      undecided =
          c.remove-2.ensures.versions ∙ ap (λ (ws : List Version). without test ws) i.undecided ∙ without_undecided test vs
          ∙ sym (ap (λ (ws : List Version). undecided_of ws) c.remove.ensures.versions);
      room = omega (arith, c.remove.ensures.spare, i.room);
      few_room = omega (arith, c.remove-2.ensures.spare, i.few_room);
    }

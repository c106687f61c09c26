use Rattle.std.proofs.Common.{List, ap, arith, sym, ◌∙◌}
use Rattle.str_base.specs.declared.names.Version.{Version}
use Rattle.str_base.specs.Versions.{without}
use Rattle.version_chain.specs.ChainLists.{of_write}
use Rattle.version_chain.specs.Undecided.{undecided_of}
use Rattle.version_chain.proofs.Deciding.{without_undecided}
use Rattle.version_chain.proofs.chains.Chains.drop_version.Goals as goal

pub invariant_of-self : goal.invariant_of-self
invariant_of-self c =
    let vs = c.self.inside.all.versions in
    let test = of_write c.args.key c.args.tx in
    let i = c.self.invariant in
    record {
      order = c.drop_version.ensures.order.1;
      undecided =
          c.drop_version-2.ensures.versions ∙ ap (λ (ws : List Version). without test ws) i.undecided ∙ without_undecided test vs
          ∙ sym (ap (λ (ws : List Version). undecided_of ws) c.drop_version.ensures.versions);
      room = omega (arith, c.drop_version.ensures.spare, i.room);
      few_room = omega (arith, c.drop_version-2.ensures.spare, i.few_room);
    }

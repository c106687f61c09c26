use Rattle.std.proofs.Common.{List, ap, ◌∙◌}
use Rattle.str_base.specs.declared.names.Version.{Version}
use Rattle.version_chain.specs.ChainLists.{last_held}
use Rattle.version_chain.proofs.Deciding.{last_undecided_of}
use Rattle.version_chain.proofs.chains.Chains.undecided.Goals as goal

pub returns-clause-value : goal.returns-clause-value
returns-clause-value c =
    let b = c.args.with_local in
    let k = c.args.key in
    let r = c.args.rs.0 in
    c.undecided.ensures.value ∙ ap (λ (vs : List Version). last_held b vs k r) c.self.invariant.undecided ∙ last_undecided_of b c.self.inside.all.versions k r ∙ ap (λ w. last_held b w.versions k r) c.self.view_is

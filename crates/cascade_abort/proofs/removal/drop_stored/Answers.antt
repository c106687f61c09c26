use Rattle.std.proofs.Common.{false, rules, sym, ◌≡◌}
use Rattle.cascade_abort.proofs.Dropping.{none_stored}
use Rattle.version_chain.specs.ChainLists.{is_among}
use Rattle.cascade_abort.proofs.removal.drop_stored.Goals as goal

pub returns-then-not-hosts-clause-versions : goal.returns-then-not-hosts-clause-versions
returns-then-not-hosts-clause-versions c =
    let not_hosted : is_among c.args.store.now.hosted c.args.part ≡ false = search rules in
    sym (none_stored c.args.store.now.hosted c.args.tx c.args.part c.args.store.now.versions not_hosted c.hosts.ensures.kept.1)

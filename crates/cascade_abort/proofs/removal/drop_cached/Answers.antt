use Rattle.std.proofs.Common.{rules, sym, true, ◌≡◌}
use Rattle.cascade_abort.proofs.Dropping.{none_cached}
use Rattle.version_chain.specs.ChainLists.{is_among}
use Rattle.cascade_abort.proofs.removal.drop_cached.Goals as goal

pub returns-then-hosts-clause-versions : goal.returns-then-hosts-clause-versions
returns-then-hosts-clause-versions c =
    let is_hosted : is_among c.args.cache.now.hosted c.args.part ≡ true = search rules in
    sym (none_cached c.args.cache.now.node c.args.cache.now.hosted c.args.tx c.args.part c.args.cache.now.versions is_hosted c.hosts.ensures.kept.1)

use Rattle.std.proofs.Common.{subst, sym}
use Rattle.version_chain.proofs.Each.{each_insert}
use Rattle.cache_partition.specs.CacheLists.{IsCache, IsCached, CacheList}
use Rattle.cache_partition.proofs.caches.CachePartition.insert.Goals as goal

pub invariant_of-self : goal.invariant_of-self
invariant_of-self c = (c.insert.ensures.order.1, rw c.insert.ensures.versions (each_insert (IsCached c.self.inside.node c.self.inside.hosted) c.args.version c.self.inside.chains.versions (subst (λ (s : CacheList). IsCached s.node s.hosted c.args.version) (sym c.self.view_is) c.requires.cached) c.self.invariant.1))

pub returns-clause-kept : goal.returns-clause-kept
returns-clause-kept c =
    (subst IsCache c.self.view_is c.self.invariant, (c.insert.ensures.order.1, rw c.insert.ensures.versions (each_insert (IsCached c.self.inside.node c.self.inside.hosted) c.args.version c.self.inside.chains.versions (subst (λ (s : CacheList). IsCached s.node s.hosted c.args.version) (sym c.self.view_is) c.requires.cached) c.self.invariant.1)))

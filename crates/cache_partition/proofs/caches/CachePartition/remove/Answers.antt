use Rattle.std.proofs.Common.{not, subst}
use Rattle.str_base.specs.Versions.{of_pair}
use Rattle.version_chain.proofs.Each.{each_kept}
use Rattle.cache_partition.specs.CacheLists.{IsCache, IsCached}
use Rattle.cache_partition.proofs.caches.CachePartition.remove.Goals as goal

pub invariant_of-self : goal.invariant_of-self
invariant_of-self c = (c.remove.ensures.order.1, rw c.remove.ensures.versions (each_kept (λ v. not (of_pair c.args.tx c.args.part v)) (IsCached c.self.inside.node c.self.inside.hosted) c.self.inside.chains.versions c.self.invariant.1))

pub returns-clause-kept : goal.returns-clause-kept
returns-clause-kept c =
    (subst IsCache c.self.view_is c.self.invariant, (c.remove.ensures.order.1, rw c.remove.ensures.versions (each_kept (λ v. not (of_pair c.args.tx c.args.part v)) (IsCached c.self.inside.node c.self.inside.hosted) c.self.inside.chains.versions c.self.invariant.1)))

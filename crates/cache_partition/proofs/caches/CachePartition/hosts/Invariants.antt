use Rattle.std.proofs.Common.{drop, ◌≡◌}
use Rattle.version_chain.specs.ChainLists.{is_among}
use Rattle.cache_partition.proofs.caches.CachePartition.hosts.Given as goal

abbrev pub invariant-loop-hosted : goal.invariant-loop-hosted
invariant-loop-hosted l = is_among (drop l.hosted-index l.hosted-items) l.part ≡ is_among l.self.hosted l.part

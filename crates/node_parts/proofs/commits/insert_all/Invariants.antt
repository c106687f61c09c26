use Rattle.std.proofs.Common.{drop, map, ◌+◌, ◌≡◌, ◌≤◌}
use Rattle.cache_partition.specs.CacheLists.{StaysHere as CacheStays}
use Rattle.node_parts.specs.Holding.{own_version}
use Rattle.replica_store.proofs.Merging.{ListsApart}
use Rattle.replica_store.specs.StoreLists.{StaysHere as StoreStays}
use Rattle.str_base.specs.Versions.{insert_all}
use Rattle.version_chain.proofs.Keeping.{AllApart}
use Rattle.version_chain.specs.ChainLists.{merged}
use Rattle.node_parts.proofs.commits.insert_all.Given as goal

abbrev pub invariant-loop-write : goal.invariant-loop-write
invariant-loop-write l = record {
  apart : AllApart (map (own_version l.site l.tx l.lc) (drop l.write-index l.write-items));
  stored : ListsApart (map (own_version l.site l.tx l.lc) (drop l.write-index l.write-items)) l.store.versions;
  cached : ListsApart (map (own_version l.site l.tx l.lc) (drop l.write-index l.write-items)) l.cache.versions;
  merged : insert_all (map (own_version l.site l.tx l.lc) (drop l.write-index l.write-items)) (merged l.cache.versions l.store.versions)
      ≡ insert_all (map (own_version l.site l.tx l.lc) l.writes) (merged l.fn.cache.versions l.fn.store.versions);
  store_here : StoreStays l.fn.store l.store;
  cache_here : CacheStays l.fn.cache l.cache;
  store_spare : l.fn.store.spare ≤ l.store.spare + l.write-index;
  cache_spare : l.fn.cache.spare ≤ l.cache.spare + l.write-index;
}

use Rattle.std.proofs.Common.{drop, ◌≡◌, ◌≤◌}
use Rattle.cache_partition.specs.CacheLists.{StaysHere as CacheStays}
use Rattle.node_parts.proofs.Committing.{cached_parts, stored_parts, without_each}
use Rattle.replica_store.proofs.OwnCommit.{finalise_each}
use Rattle.replica_store.specs.StoreLists.{StaysHere as StoreStays}
use Rattle.node_parts.proofs.commits.commit_all.Given as goal

abbrev pub invariant-loop-write : goal.invariant-loop-write
invariant-loop-write l = record {
  store : finalise_each l.tx l.fc.0 (stored_parts l.site (drop l.write-index l.write-items)) l.store.versions ≡ finalise_each l.tx l.fc.0 (stored_parts l.site l.writes) l.fn.store.versions;
  cache : without_each l.tx (cached_parts l.site (drop l.write-index l.write-items)) l.cache.versions ≡ without_each l.tx (cached_parts l.site l.writes) l.fn.cache.versions;
  store_here : StoreStays l.fn.store l.store;
  cache_here : CacheStays l.fn.cache l.cache;
  store_spare : l.fn.store.spare ≤ l.store.spare;
  cache_spare : l.fn.cache.spare ≤ l.cache.spare;
}

use Rattle.std.proofs.Common.{drop, ◌≡◌, ◌≤◌}
use Rattle.cache_partition.specs.CacheLists.{StaysHere as CacheStays}
use Rattle.cascade_abort.proofs.Dropping.{AllIn}
use Rattle.replica_store.specs.StoreLists.{StaysHere as StoreStays}
use Rattle.str_base.specs.Versions.{of_tx, without}
use Rattle.cascade_abort.proofs.removal.drop_all.Given as goal

abbrev pub invariant-loop-part : goal.invariant-loop-part
invariant-loop-part l = record {
  stored : AllIn (drop l.part-index l.part-items) l.tx l.store.versions;
  cached : AllIn (drop l.part-index l.part-items) l.tx l.cache.versions;
  store : without (of_tx l.tx) l.store.versions ≡ without (of_tx l.tx) l.fn.store.versions;
  cache : without (of_tx l.tx) l.cache.versions ≡ without (of_tx l.tx) l.fn.cache.versions;
  store_here : StoreStays l.fn.store l.store;
  cache_here : CacheStays l.fn.cache l.cache;
  store_spare : l.fn.store.spare ≤ l.store.spare;
  cache_spare : l.fn.cache.spare ≤ l.cache.spare;
}

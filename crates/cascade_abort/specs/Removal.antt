-- Where the versions of a transaction lie, and that they are out.
use Rattle.std.specs.Prelude.{List, true, ◌≡◌}
use Rattle.cache_partition.specs.CacheLists.{CacheList}
use Rattle.partition_map.specs.Maps.{PartitionMap, is_written, part_of}
use Rattle.replica_store.specs.StoreLists.{StoreList}
use Rattle.str_base.specs.declared.names.TxId.{TxId}
use Rattle.str_base.specs.declared.names.Version.{Version}
use Rattle.str_base.specs.declared.names.Write.{Write}
use Rattle.str_base.specs.Versions.{of_tx, without}
use Rattle.version_chain.specs.ChainLists.{Each, merged}

-- each version of the transaction lies in the partition of one of these writes
abbrev pub AllWritten : PartitionMap → List Write → TxId → List Version → Type 0
AllWritten map writes tx vs = Each (λ v. of_tx tx v ≡ true → is_written (part_of map) writes v.part ≡ true) vs

-- all versions of the transaction are out of the list of both
abbrev pub IsOutOfBoth : TxId → CacheList → StoreList → CacheList → StoreList → Type 0
IsOutOfBoth tx cache store cache' store' =
    merged cache'.versions store'.versions ≡ without (of_tx tx) (merged cache.versions store.versions)

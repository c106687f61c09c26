-- What a store is filled with.
use Rattle.std.specs.Prelude.{List, Some, [], false, slice_get, ℕ, ◌<◌, ◌∷◌, ◌≡◌}
use Rattle.local_certify.specs.Causes.{time_end}
use Rattle.partition_map.specs.Maps.{PartitionMap}
use Rattle.replica_store.specs.StoreLists.{StoreList}
use Rattle.str_base.specs.declared.names.PartId.{PartId}
use Rattle.str_base.specs.declared.names.Version.{Version}
use Rattle.str_base.specs.declared.names.Write.{Write}
use Rattle.str_base.specs.Versions.{is_local}
use Rattle.version_chain.specs.ChainLists.{Each}

-- the partition of all keys
abbrev pub one_hosted : List PartId
one_hosted = record { 0 = 1 } ∷ []

-- that partition at node 1, with one key
abbrev pub one_part : PartitionMap
one_part = record { rows = (record { 0 = 1 } ∷ []) ∷ []; keys = record { 0 = 1 } ∷ [] }

-- a version by one of the first n transactions of node 2 or by one of node 5, of one of the first keys
pub record Held (n keys : ℕ) (v : Version) : Type 0 where
  pub seq : v.tx.node.0 ≡ 2 → v.tx.seq < n
  pub key : v.key.0 < keys
  pub other : ¬ (v.tx.node.0 ≡ 4)
  pub decided : is_local v.kind ≡ false
  pub ts : v.ts.0 < time_end

-- the version is not by the n-th transaction of node 4, nor by a later one
abbrev pub IsEarlier : ℕ → Version → Type 0
IsEarlier n v = v.tx.node.0 ≡ 4 → v.tx.seq < n

-- the version is of no own undecided transaction, and not too late
abbrev pub IsPlain : Version → Type 0
IsPlain v = (is_local v.kind ≡ false) × (v.ts.0 < time_end)

-- a store of node 1 that hosts the one partition, where node 4 has written nothing
pub record IsFilled (store : StoreList) : Type 0 where
  pub node : store.node ≡ record { 0 = 1 }
  pub hosted : store.hosted ≡ one_hosted
  pub plain : Each IsPlain store.versions
  pub earlier : Each (IsEarlier 0) store.versions

-- the writes are of the first key alone
abbrev pub HaveFirstKey : List Write → Type 0
HaveFirstKey ws = (i : ℕ) (w : Write) → slice_get ws i ≡ Some w → w.key.0 < 1

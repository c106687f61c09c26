-- What a node holds, and the view that it shows.
use Rattle.std.specs.Prelude.{List, map, ℕ, ◌≡◌, ◌≤◌}
use Rattle.cache_partition.specs.CacheLists.{CacheList}
use Rattle.node_parts.specs.declared.held.Held.{Held}
use Rattle.replica_store.specs.StoreLists.{StoreList}
use Rattle.snapshot_read.specs.Shown.{StandAt}
use Rattle.str_base.specs.declared.names.Kind.TheVariants.{Local}
use Rattle.str_base.specs.declared.names.Ts.{Ts}
use Rattle.str_base.specs.declared.names.TxId.{TxId}
use Rattle.str_base.specs.declared.names.Version.{Version}
use Rattle.str_base.specs.declared.names.Write.{Write}
use Rattle.str_base.specs.Versions.{insert_all}
use Rattle.str_model.specs.Acts.{local_version}
use Rattle.str_model.specs.Views.{Own, View, name_of}
use Rattle.str_scene.specs.Scenes.{Here, map_of, part_of}
use Rattle.version_chain.specs.ChainLists.{Apart, Each, merged}

-- both stores are of the node, with the partitions that it hosts
abbrev pub StandsAt : Here → Held → Type 0
StandsAt here h = StandAt here.node (map_of here.scene) h.store h.cache

-- each list has room for so many more
pub record HasRoom (n : ℕ) (h : Held) : Type 0 where
  pub store : n ≤ h.store.spare
  pub cache : n ≤ h.cache.spare
  pub done : n ≤ h.done.spare
  pub parked : n ≤ h.parked.spare

-- the view of what is held, beside these own transactions
abbrev pub view_of : Held → List Own → View
view_of h own =
    record { versions = merged h.cache.versions h.store.versions; marks = h.marks; floor = h.floor.0; own = own; waiters = h.parked.waiters; done = h.done.pairs }

-- all stays, and no room is lost
pub record SameHeld (old new : Held) : Type 0 where
  pub store_node : new.store.node ≡ old.store.node
  pub store_hosted : new.store.hosted ≡ old.store.hosted
  pub stored : new.store.versions ≡ old.store.versions
  pub cache_node : new.cache.node ≡ old.cache.node
  pub cache_hosted : new.cache.hosted ≡ old.cache.hosted
  pub cached : new.cache.versions ≡ old.cache.versions
  pub marks : new.marks ≡ old.marks
  pub floor : new.floor ≡ old.floor
  pub done : new.done.pairs ≡ old.done.pairs
  pub waiters : new.parked.waiters ≡ old.parked.waiters
  pub room : (n : ℕ) → HasRoom n old → HasRoom n new

-- no version of the cache lies where one of the store does
abbrev pub LieApart : StoreList → CacheList → Type 0
LieApart store cache = Each (λ v. Each (Apart v) store.versions) cache.versions

-- the versions of both stores in order
abbrev pub joined : StoreList → CacheList → List Version
joined store cache = merged cache.versions store.versions

-- the versions with what an own transaction wrote, Local at lc
abbrev pub with_own : Here → ℕ → ℕ → List Write → List Version → List Version
with_own here i lc writes versions = insert_all (map (local_version here i lc) writes) versions

-- where the stores lie apart and the name is that of an own transaction, they hold what they held with what it wrote
abbrev pub HoldsWrites : Here → TxId → ℕ → List Write → StoreList → CacheList → StoreList → CacheList → Type 0
HoldsWrites here tx lc writes store cache store' cache' =
    (i : ℕ) → tx ≡ name_of here i → LieApart store cache → joined store' cache' ≡ with_own here i lc writes (joined store cache)

-- the Local version that a write of the transaction becomes
abbrev pub own_version : Here → TxId → Ts → Write → Version
own_version here tx lc w = record { key = w.key; part = part_of here.scene w.key; tx = tx; ts = lc; value = w.value; kind = Local }

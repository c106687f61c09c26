-- What a call of this crate is told of the transactions and stores of a node, and the views that say the same.
use Rattle.std.specs.List.{AllByRecursion}
use Rattle.std.specs.Prelude.{Bool, List, None, Option, Some, [], false, find, if◌then◌else◌, is_some, not, option_map, slice_get, true, ℕ, ◌&&◌, ◌+◌, ◌-◌, ◌==◌, ◌∷◌, ◌≡◌, ◌≤◌}
use Rattle.cache_partition.specs.CacheLists.{CacheList}
use Rattle.dependency_set.specs.declared.names.Dep.{Dep}
use Rattle.dependency_set.specs.declared.snaps.OwnSnap.{OwnSnap}
use Rattle.dependency_set.specs.Snapshots.{Snap, accept_local}
use Rattle.partition_map.specs.Maps.{PartitionMap, hosts, part_of}
use Rattle.replica_store.specs.StoreLists.{StoreList}
use Rattle.str_base.specs.declared.names.KeyId.{KeyId}
use Rattle.str_base.specs.declared.names.NodeId.{NodeId}
use Rattle.str_base.specs.declared.names.PartId.{PartId}
use Rattle.str_base.specs.declared.names.Version.{Version}
use Rattle.str_base.specs.Versions.{is_local, same_key}
use Rattle.str_model.specs.NodeFacts.{has_lc}
use Rattle.str_model.specs.Views.{Own, View, is_decided}
use Rattle.str_scene.specs.Scenes.{Here, map_of}
use Rattle.version_chain.specs.ChainLists.{Each, is_among, merged}

-- ---- own transactions

-- the snapshot that is told of the own transaction with this number
abbrev pub told : List OwnSnap → ℕ → Option Snap
told own q = option_map (λ x. x.snap) (find (λ x. x.seq == q) own)

-- the own transaction with this number is told of
abbrev pub IsNamed : List OwnSnap → ℕ → Type 0
IsNamed own q = is_some (told own q) ≡ true

-- each of these dependencies is told of
abbrev pub AreNamed : List OwnSnap → List Dep → Type 0
AreNamed own deps = AllByRecursion (λ d. IsNamed own d.seq) deps

-- so is each dependency of the own transaction with this number
abbrev pub OthersNamed : List OwnSnap → ℕ → Type 0
OthersNamed own q = (of : Snap) → told own q ≡ Some of → AreNamed own of.deps

-- of a Local version: its transaction is told of and, where the version is at or below the snapshot, each of that transaction's dependencies
pub record IsTold (own : List OwnSnap) (rs : ℕ) (v : Version) : Type 0 where
  pub origin : is_local v.kind ≡ true → IsNamed own v.tx.seq
  pub others : is_local v.kind ≡ true → v.ts.0 ≤ rs → OthersNamed own v.tx.seq

-- the same of each version of both stores
abbrev pub AreTold : List OwnSnap → ℕ → List Version → List Version → Type 0
AreTold own rs store cache = Each (IsTold own rs) store × Each (IsTold own rs) cache

-- own transactions, the i-th of which has the number i + 1, have the snapshots that are told of them
abbrev pub Agree : List Own → List OwnSnap → Type 0
Agree xs own = (q : ℕ) (of : Snap) → told own q ≡ Some of → option_map (λ x. x.snap) (slice_get xs (q - 1)) ≡ Some of

-- the certified undecided transactions of a list, the first of which has the number n + 1
abbrev pub told_from : ℕ → List Own → List OwnSnap
told_from n [] = []
told_from n (x ∷ xs) =
    if not (is_decided x.phase) && has_lc x then record { seq = n + 1; snap = x.snap } ∷ told_from (n + 1) xs else told_from (n + 1) xs

-- a snapshot with what it takes over from the transaction with this number
abbrev pub taken_over : Option Snap → ℕ → Snap → Snap
taken_over None q snap = snap
taken_over (Some of) q snap = accept_local snap q of

-- ---- stores

-- both stores are of the node, with the partitions that it hosts by the map
pub record StandAt (node : NodeId) (map : PartitionMap) (store : StoreList) (cache : CacheList) : Type 0 where
  pub store_here : store.node ≡ node
  pub cache_here : cache.node ≡ node
  pub store_hosts : (p : PartId) → is_among store.hosted p ≡ hosts map node p
  pub cache_hosts : (p : PartId) → is_among cache.hosted p ≡ hosts map node p

-- the versions of the store which holds a key
abbrev pub of_key : Bool → List Version → List Version → List Version
of_key true store cache = store
of_key false store cache = cache

-- the versions of the store which holds a key at the node
abbrev pub held : PartitionMap → NodeId → List Version → List Version → KeyId → List Version
held map node store cache k = of_key (hosts map node (part_of map k)) store cache

-- the version is in the partition of its key
abbrev pub IsPlaced : PartitionMap → Version → Type 0
IsPlaced map v = v.part ≡ part_of map v.key

-- the view of a node says the same as these arguments: the map is that of the scene, the versions are those of both stores, each in the
-- partition of its key, and the own transactions that are told of have these snapshots
pub record Shows (here : Here) (view : View) (node : NodeId) (own : List OwnSnap) (store : StoreList) (cache : CacheList) (map : PartitionMap) : Type 0 where
  pub same_node : here.node ≡ node
  pub same_map : map_of here.scene ≡ map
  pub versions : view.versions ≡ merged cache.versions store.versions
  pub placed : Each (IsPlaced map) store.versions × Each (IsPlaced map) cache.versions
  pub agree : Agree view.own own

-- this holds in each view of the node that says the same as these arguments
abbrev pub InViews : NodeId → List OwnSnap → StoreList → CacheList → PartitionMap → (Here → View → Type 0) → Type 0
InViews node own store cache map P = (here : Here) (view : View) → Shows here view node own store cache map → P here view

-- the view of a node that hosts a key shows the versions of its store, and others of a cache, none of which is of the key
pub record ShowsHosted (view : View) (store : List Version) (k : KeyId) : Type 0 where
  pub cached : List Version
  pub versions : view.versions ≡ merged cached store
  pub elsewhere : Each (λ v. same_key v.key k ≡ false) cached

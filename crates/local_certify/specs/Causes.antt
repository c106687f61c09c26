-- Why a certification conflicts or waits, and what a timestamp is above.
use Rattle.std.specs.Prelude.{List, None, Some, find, length, slice_get, ℕ, ◌<◌, ◌-◌, ◌^◌, ◌↔◌, ◌≡◌}
use Rattle.cache_partition.specs.CacheLists.{CacheList}
use Rattle.dependency_set.specs.declared.snaps.OwnSnap.{OwnSnap}
use Rattle.dependency_set.specs.Snapshots.{Snap}
use Rattle.local_certify.specs.declared.certs.CertTurn.{CertTurn}
use Rattle.local_certify.specs.declared.certs.CertTurn.TheVariants.{Certified, Conflict, WaitGate}
use Rattle.partition_map.specs.Maps.{PartitionMap}
use Rattle.replica_store.specs.StoreLists.{StoreList}
use Rattle.snapshot_read.specs.Causes.{GateWaits}
use Rattle.snapshot_read.specs.Shown.{InViews}
use Rattle.str_base.specs.declared.names.KeyId.{KeyId}
use Rattle.str_base.specs.declared.names.NodeId.{NodeId}
use Rattle.str_base.specs.declared.names.Ts.{Ts}
use Rattle.str_base.specs.declared.names.TxId.{TxId}
use Rattle.str_base.specs.declared.names.Version.{Version}
use Rattle.str_base.specs.declared.names.Write.{Write}
use Rattle.str_base.specs.Versions.{mark_of, newest}
use Rattle.str_model.specs.Turns.{conflicts, joined, met}
use Rattle.str_model.specs.Views.{View}
use Rattle.str_scene.specs.Scenes.{Here}
use Rattle.version_chain.specs.ChainLists.{Each}

-- every timestamp that is handed in is below this
abbrev pub time_end : ℕ
time_end = 2 ^ 63 - 1

-- the snapshot, the marks and the versions are below the end of time
pub record AllBelow (rs : ℕ) (marks : List ℕ) (store cache : List Version) : Type 0 where
  pub snap : rs < time_end
  pub marked : (k : KeyId) → k.0 < length marks → mark_of marks k < time_end
  pub stored : Each (λ v. v.ts.0 < time_end) store
  pub cached : Each (λ v. v.ts.0 < time_end) cache

-- the first version of the written keys that is Pre or above the snapshot is of this transaction and key
pub record FirstConflict (view : View) (snap : Snap) (ws : List Write) (by : TxId) (key : KeyId) : Type 0 where
  pub version : Version
  pub first : find (conflicts snap.rs) (met ws view.versions) ≡ Some version
  pub writer : by ≡ version.tx
  pub written : key ≡ version.key

-- none conflicts, and the gate of the new snapshot names this transaction
pub record CertWaits (here : Here) (view : View) (snap : Snap) (ws : List Write) (by : TxId) : Type 0 where
  pub free : find (conflicts snap.rs) (met ws view.versions) ≡ None
  pub gate : GateWaits here.node (joined view.own (met ws view.versions) snap) by

-- the timestamp is above the snapshot, and above the mark and the newest version of each written key
pub record IsAbove (view : View) (snap : Snap) (ws : List Write) (lc : ℕ) : Type 0 where
  pub snap_below : snap.rs < lc
  pub marks_below : (i : ℕ) (w : Write) → slice_get ws i ≡ Some w → mark_of view.marks w.key < lc
  pub newest_below : (i : ℕ) (w : Write) → slice_get ws i ≡ Some w → newest view.versions w.key < lc

-- ---- a view of the node

-- this holds in each view of the node that says the same as these arguments and has these marks
abbrev pub InMarkedViews : NodeId → List OwnSnap → StoreList → CacheList → PartitionMap → List ℕ → (Here → View → Type 0) → Type 0
InMarkedViews node own store cache map marks P = InViews node own store cache map (λ here view. view.marks ≡ marks → P here view)

-- a certification conflicts exactly with the first version that is Pre or above the snapshot
abbrev pub NamesConflict : CertTurn → Snap → List Write → Here → View → Type 0
NamesConflict turn snap ws here view = (by : TxId) (key : KeyId) → (turn ≡ Conflict by key) ↔ FirstConflict view snap ws by key

-- it waits exactly for whom the gate of the new snapshot names
abbrev pub NamesGate : CertTurn → Snap → List Write → Here → View → Type 0
NamesGate turn snap ws here view = (by : TxId) → (turn ≡ WaitGate by) ↔ CertWaits here view snap ws by

-- it certifies only above the snapshot, and above the mark and the newest version of each written key
abbrev pub CertifiesAbove : CertTurn → Snap → List Write → Here → View → Type 0
CertifiesAbove turn snap ws here view = (lc : Ts) (new : Snap) → turn ≡ Certified lc new → IsAbove view snap ws lc.0

-- Why a read waits, or is a master's.
use Rattle.std.specs.Prelude.{List, None, Option, Some, false, slice_get, ℕ, ◌-◌, ◌≡◌}
use Rattle.dependency_set.specs.declared.names.Dep.{Dep}
use Rattle.dependency_set.specs.Snapshots.{Snap, accept_final, holds, oldest}
use Rattle.str_base.specs.declared.names.KeyId.{KeyId}
use Rattle.str_base.specs.declared.names.Kind.{Kind}
use Rattle.str_base.specs.declared.names.Kind.TheVariants.{Final, Local, Pre}
use Rattle.str_base.specs.declared.names.NodeId.{NodeId}
use Rattle.str_base.specs.declared.names.TxId.{TxId}
use Rattle.str_base.specs.declared.names.Version.{Version}
use Rattle.str_base.specs.Versions.{last_pre, last_undecided, visible}
use Rattle.str_model.specs.Turns.{take_over}
use Rattle.str_model.specs.Views.{Own, View}
use Rattle.str_scene.specs.Scenes.{Here, first_or, hosts_key, part_of, replicas}

-- the gate fails, and this is the dependency with the least timestamp, then the least number
pub record GateWaits (node : NodeId) (snap : Snap) (by : TxId) : Type 0 where
  pub shut : holds snap ≡ false
  pub dep : Dep
  pub least : oldest snap.deps ≡ Some dep
  pub named : by ≡ record { node = node; seq = dep.seq }

-- what a snapshot takes over from a version of this kind
abbrev pub with_kind : List Own → Snap → Version → Kind → Snap
with_kind own snap v Pre = snap
with_kind own snap v Local = take_over (slice_get own (v.tx.seq - 1)) v.tx.seq snap
with_kind own snap v Final = accept_final snap v.ts.0

-- what a snapshot takes over from the visible version, where there is one
abbrev pub with_read : List Own → Snap → Option Version → Snap
with_read own snap None = snap
with_read own snap (Some v) = with_kind own snap v v.kind

-- no Pre version stands at or below the snapshot, the key is not hosted, no version of it is visible, and this is its partition's master
pub record IsAway (here : Here) (view : View) (snap : Snap) (k : KeyId) (master : NodeId) : Type 0 where
  pub no_pre : last_pre view.versions k snap.rs ≡ None
  pub elsewhere : hosts_key here k ≡ false
  pub unseen : visible view.versions k snap.rs ≡ None
  pub named : master ≡ first_or here.node (replicas here.scene (part_of here.scene k))

-- whom a read waits for: the last Pre version's transaction, else whom the gate of the new snapshot names
pub data ReadWaits (here : Here) (view : View) (snap : Snap) (k : KeyId) (by : TxId) : Type 0 where
  on_pre : (v : Version) → last_pre view.versions k snap.rs ≡ Some v → by ≡ v.tx → ReadWaits here view snap k by
  at_gate : last_pre view.versions k snap.rs ≡ None → ((m : NodeId) → IsAway here view snap k m → ⊥)
      → GateWaits here.node (with_read view.own snap (visible view.versions k snap.rs)) by → ReadWaits here view snap k by

-- the last undecided version of the key at or below the timestamp is by this transaction
pub record ServeWaits (versions : List Version) (k : KeyId) (rs : ℕ) (by : TxId) : Type 0 where
  pub version : Version
  pub last : last_undecided versions k rs ≡ Some version
  pub named : by ≡ version.tx

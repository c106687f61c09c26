-- Speculative snapshot isolation of a state.
use Rattle.std.specs.Prelude.{None, Some, ℕ, ◌<◌, ◌≡◌, ◌≤◌, ◌⊎◌}
use Rattle.str_base.specs.declared.names.KeyId.{KeyId}
use Rattle.str_base.specs.declared.names.Kind.TheVariants.{Local as LocalKind}
use Rattle.str_base.specs.declared.names.NodeId.{NodeId}
use Rattle.str_model.specs.declared.names.ReadDone.{ReadDone}
use Rattle.str_base.specs.declared.names.TxId.{TxId}
use Rattle.str_base.specs.declared.names.Value.TheVariants.{Absent}
use Rattle.str_base.specs.declared.names.Version.{Version}
use Rattle.str_model.specs.Owned.{Owns}
use Rattle.str_model.specs.Runs.{World}
use Rattle.str_scene.specs.Scenes.{nth}
use Rattle.si_laws.specs.Standing.{Before, Begun, CommitOf, DependsOn, HasRead, IsAborted, IsCommitted, IsOpen, ReadFrom, Wrote, WroteValue}
use Rattle.str_base.specs.Versions.{visible}
use Rattle.str_model.specs.Views.{Own, View, lc_of}

-- a read without a writer: nothing was committed at or below the snapshot
abbrev pub ReadNothing : World → Own → ReadDone → Type 0
ReadNothing w x r = (r.by ≡ None) × (r.value ≡ Absent) × ((fc : ℕ) → CommitOf w r.key fc → x.snap.rs < fc)

-- a read from a committed writer: the last commit at or below the snapshot
abbrev pub ReadCommitted : World → Own → ReadDone → Type 0
ReadCommitted w x r =
    (u : TxId) × (y : Own) × (fc : ℕ) × (r.by ≡ Some u) × Begun w u y × IsCommitted y fc × (fc ≤ x.snap.rs) × WroteValue y r.key r.value
    × ((gc : ℕ) → CommitOf w r.key gc → (gc ≤ fc) ⊎ (x.snap.rs < gc))

-- a read from an undecided writer of the node: its Local version is the one that is visible
abbrev pub ReadLocal : World → NodeId → View → Own → ReadDone → Type 0
ReadLocal w n v x r =
    (u : TxId) × (y : Own) × (q : Version) × (r.by ≡ Some u) × (u.node ≡ n) × Begun w u y × IsOpen y
    × (visible v.versions r.key x.snap.rs ≡ Some q) × (q.tx ≡ u) × (q.kind ≡ LocalKind) × (q.value ≡ r.value)

-- the writer of the read is undecided
abbrev pub OfOpenWriter : World → ReadDone → Type 0
OfOpenWriter w r = (u : TxId) × (y : Own) × (r.by ≡ Some u) × Begun w u y × IsOpen y

-- newest reads
abbrev pub IsNewest : World → NodeId → View → Own → ReadDone → Type 0
IsNewest w n v x r = ReadNothing w x r ⊎ (ReadCommitted w x r ⊎ ReadLocal w n v x r)

-- live dependencies
pub record IsLive (w : World) (n : NodeId) (x : Own) : Type 0 where
  pub writers : (u : TxId) (y : Own) → ReadFrom x u → Begun w u y → IsAborted y → ⊥
  pub deps : (u : TxId) → DependsOn n x u → (y : Own) × (lc : ℕ) × Begun w u y × IsOpen y × (lc_of y.phase ≡ Some lc) × (y.snap.rs < lc) × (lc ≤ x.snap.rs)

-- what a transaction read from or depends on
abbrev pub RestsOn : NodeId → Own → TxId → Type 0
RestsOn n x u = ReadFrom x u ⊎ DependsOn n x u

-- what a transaction, or one that it depends on, read from or depends on
abbrev pub RestsFurther : World → NodeId → Own → TxId → Type 0
RestsFurther w n x u = RestsOn n x u ⊎ ((t : TxId) × (y : Own) × DependsOn n x t × Begun w t y × RestsOn n y u)

-- of two that wrote one key one is before the other
abbrev pub AreOrdered : World → TxId → TxId → Type 0
AreOrdered w t u =
    (x y : Own) (k : KeyId) → Begun w t x → Begun w u y → Wrote x k → Wrote y k → (t ≡ u) ⊎ (Before t x u y ⊎ Before u y t x)

-- ordered pairs
abbrev pub PairsOrdered : World → NodeId → Own → Type 0
PairsOrdered w n x = (t u : TxId) → RestsOn n x t → RestsOn n x u → AreOrdered w t u

-- the stronger clause: the same of what the dependencies rest on
abbrev pub PairsOrderedFurther : World → NodeId → Own → Type 0
PairsOrderedFurther w n x = (t u : TxId) → RestsFurther w n x t → RestsFurther w n x u → AreOrdered w t u

-- what holds of each undecided transaction of a state
abbrev pub OfEachOpen : World → (NodeId → View → Own → Type 0) → Type 0
OfEachOpen w P = (n : NodeId) (v : View) (i : ℕ) (x : Own) → nth w.nodes n.0 ≡ Some v → Owns v i x → IsOpen x → P n v x

-- speculative snapshot isolation
pub record SPSI (w : World) : Type 0 where
  pub newest : OfEachOpen w (λ n v x. (r : ReadDone) → HasRead x r → IsNewest w n v x r)
  pub live : OfEachOpen w (λ n v x. IsLive w n x)
  pub pairs : OfEachOpen w (λ n v x. PairsOrdered w n x)

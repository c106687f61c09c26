-- How transactions stand in a state: what they wrote, and which of two is before the other.
use Rattle.std.specs.Prelude.{Option, Some, false, slice_get, ℕ, ◌≡◌, ◌≤◌}
use Rattle.str_base.specs.declared.names.Cause.{Cause}
use Rattle.dependency_set.specs.declared.names.Dep.{Dep}
use Rattle.str_base.specs.declared.names.KeyId.{KeyId}
use Rattle.str_base.specs.declared.names.NodeId.{NodeId}
use Rattle.str_model.specs.declared.names.ReadDone.{ReadDone}
use Rattle.str_base.specs.declared.names.TxId.{TxId}
use Rattle.str_base.specs.declared.names.Value.{Value}
use Rattle.str_model.specs.Runs.{World}
use Rattle.str_scene.specs.Scenes.{nth}
use Rattle.str_model.specs.Views.{Aborted, Committed, Own, View, is_decided, lc_of}

-- the transaction has begun, and stands like this
abbrev pub Begun : World → TxId → Own → Type 0
Begun w t x = (v : View) × (nth w.nodes t.node.0 ≡ Some v) × (nth v.own t.seq ≡ Some x)

-- it is undecided
abbrev pub IsOpen : Own → Type 0
IsOpen x = is_decided x.phase ≡ false

-- it is committed with this final timestamp
abbrev pub IsCommitted : Own → ℕ → Type 0
IsCommitted x fc = (lc : Option ℕ) × (x.phase ≡ Committed lc (Some fc))

-- it is aborted
abbrev pub IsAborted : Own → Type 0
IsAborted x = (lc : Option ℕ) × (cause : Cause) × (x.phase ≡ Aborted lc cause)

-- the value that stands in the write buffer
abbrev pub WroteValue : Own → KeyId → Value → Type 0
WroteValue x k v = (j : ℕ) × (slice_get x.writes j ≡ Some (record { key = k; value = v }))

-- the key is in the write buffer
abbrev pub Wrote : Own → KeyId → Type 0
Wrote x k = (v : Value) × WroteValue x k v

-- it has made this read
abbrev pub HasRead : Own → ReadDone → Type 0
HasRead x r = (j : ℕ) × (slice_get x.reads j ≡ Some r)

-- it has read from the writer
abbrev pub ReadFrom : Own → TxId → Type 0
ReadFrom x u = (r : ReadDone) × HasRead x r × (r.by ≡ Some u)

-- the number stands in its dependency set
abbrev pub HasDep : Own → ℕ → Type 0
HasDep x seq = (j : ℕ) × (d : Dep) × (slice_get x.snap.deps j ≡ Some d) × (d.seq ≡ seq)

-- a transaction of node n depends on u
abbrev pub DependsOn : NodeId → Own → TxId → Type 0
DependsOn n x u = (u.node ≡ n) × HasDep x u.seq

-- one is before the other: it committed at or below the other's snapshot, or both are undecided at one node and its LC is
pub data Before (t : TxId) (x : Own) (u : TxId) (y : Own) : Type 0 where
  by_commit : (fc : ℕ) → IsCommitted x fc → fc ≤ y.snap.rs → Before t x u y
  by_node : (lc : ℕ) → IsOpen x → IsOpen y → t.node ≡ u.node → lc_of x.phase ≡ Some lc → lc ≤ y.snap.rs → Before t x u y

-- a commit of the key with this final timestamp
abbrev pub CommitOf : World → KeyId → ℕ → Type 0
CommitOf w k fc = (t : TxId) × (x : Own) × Begun w t x × IsCommitted x fc × Wrote x k

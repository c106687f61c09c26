-- What arrives at a replica, and what has to hold for it to be placed or committed.
use Rattle.std.specs.List.{list_any}
use Rattle.std.specs.Prelude.{Bool, List, Some, false, length, map, not, slice_get, true, ℕ, ◌&&◌, ◌≡◌, ◌≤◌}
use Rattle.replica_apply.specs.declared.slaves.Evicted.{Evicted}
use Rattle.replica_apply.specs.Slaves.{evicted_to}
use Rattle.node_core.specs.Working.{WorkState}
use Rattle.str_base.specs.declared.names.KeyId.{KeyId}
use Rattle.str_base.specs.declared.names.PartId.{PartId}
use Rattle.str_base.specs.declared.names.TxId.{TxId}
use Rattle.str_base.specs.declared.names.Version.{Version}
use Rattle.str_base.specs.Versions.{of_pair, same_node}
use Rattle.dependency_set.specs.declared.names.Dep.{Dep}
use Rattle.str_base.specs.declared.names.Write.{Write}
use Rattle.str_model.specs.Arrivals.{waits_read}
use Rattle.str_model.specs.Views.{Own}
use Rattle.str_model.specs.declared.messages.Arrived.{Arrived}
use Rattle.str_model.specs.declared.names.KeyMark.{KeyMark}
use Rattle.str_base.specs.Members.{In}
use Rattle.str_model.specs.NodeFacts.{MomentFacts}
use Rattle.str_model.specs.Strange.{has_key, has_named_writes, has_part, keys_in}
use Rattle.str_scene.specs.Scenes.{Here, hosts, hosts_key}

-- all that it names exists
abbrev pub IsNamed : WorkState → Arrived → Type 0
IsNamed w a = has_named_writes w.here a.tx a.part a.rs a.lc a.writes ≡ true

-- a read request is of another node, for a key that this node has, and does not wait here
abbrev pub is_new_read : WorkState → TxId → KeyId → Bool
is_new_read w tx k = hosts_key w.here k && (not (same_node tx.node w.here.node) && not (list_any (waits_read tx k) w.doing.view.waiters))

-- it may be placed: the facts hold, all that it names exists, its partition is hosted, and no version of its pair stands here
pub record CanPlace (w : WorkState) (a : Arrived) : Type 0 where
  pub facts : MomentFacts w.here w.doing.view
  pub named : IsNamed w a
  pub hosted : hosts w.here.scene w.here.node a.part ≡ true
  pub none : (u : Version) → In u w.doing.view.versions → of_pair a.tx a.part u ≡ false

-- the partition exists, and the marks are of distinct keys of it
pub record CanCommit (w : WorkState) (p : PartId) (ms : List KeyMark) : Type 0 where
  pub part : has_part w.here p ≡ true
  pub keys : keys_in w.here p (map (λ (m : KeyMark). m.key) ms) ≡ true

-- each dependency of the transaction at the place is an own transaction
abbrev pub AreHere : List Own → ℕ → Type 0
AreHere own i = (x : Own) (d : Dep) → slice_get own i ≡ Some x → In d x.snap.deps → (1 ≤ d.seq) × (d.seq ≤ length own)

-- each key that an own transaction wrote exists
abbrev pub AreKeys : Here → List Own → Type 0
AreKeys here own = (i : ℕ) (x : Own) (w : Write) → slice_get own i ≡ Some x → In w x.writes → has_key here w.key ≡ true

-- those who are evicted are undecided own transactions, by rising number, each with the first key that it holds
abbrev pub AreEvicted : WorkState → Arrived → List Evicted → Type 0
AreEvicted w a es = (n : ℕ) × (es ≡ evicted_to w.here.node w.doing.view.versions a.writes n)

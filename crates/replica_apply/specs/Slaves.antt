-- What a slave decides of a Replicate by the versions and marks of the keys that it hosts.
use Rattle.std.specs.List.{list_any}
use Rattle.std.specs.Prelude.{Bool, List, None, Option, Some, [], false, if◌then◌else◌, is_some, min, nat_lt, not, slice_get, suc, zero, ℕ, ◌&&◌, ◌+◌, ◌++◌, ◌-◌, ◌<◌, ◌==◌, ◌||◌, ◌∷◌, ◌≡◌}
use Rattle.partition_map.specs.Maps.{PartitionMap, hosts, leads, replicas}
use Rattle.prepare_master.specs.MasterTurns.{IsAt, ShowsReplica, below_limit, proposal}
use Rattle.replica_apply.specs.declared.slaves.Evicted.{Evicted}
use Rattle.replica_apply.specs.declared.slaves.SlaveTurn.{SlaveTurn}
use Rattle.replica_apply.specs.declared.slaves.SlaveTurn.TheVariants.{Ignore, Take}
use Rattle.str_base.specs.declared.names.Cause.TheVariants.{Conflict as ByConflict}
use Rattle.str_base.specs.declared.names.NodeId.{NodeId}
use Rattle.str_base.specs.declared.names.PartId.{PartId}
use Rattle.str_base.specs.declared.names.TxId.{TxId}
use Rattle.str_base.specs.declared.names.Version.{Version}
use Rattle.str_base.specs.declared.names.Write.{Write}
use Rattle.str_base.specs.Versions.{is_local, of_pair, of_tx, same_node, without}
use Rattle.str_model.specs.declared.messages.Arrived.{Arrived}
use Rattle.str_model.specs.Acts.{aborted, taken}
use Rattle.str_model.specs.Arrivals.{held_key}
use Rattle.str_model.specs.Proposals.{is_pair}
use Rattle.str_model.specs.Scripts.{at_own}
use Rattle.str_model.specs.Views.{Doing, Own, View, is_decided}
use Rattle.str_scene.specs.Scenes.{Here}

-- the Replicate is for this slave and comes for the first time
abbrev pub is_taken : PartitionMap → NodeId → List Version → List (TxId × PartId) → Arrived → Bool
is_taken map node vs done a =
    hosts map node a.part && (not (leads node (replicas map a.part))
    && (not (same_node a.tx.node node) && not (list_any (is_pair a.tx a.part) done || list_any (of_pair a.tx a.part) vs)))

-- the transaction of this node and number
abbrev pub named : NodeId → ℕ → TxId
named node q = record { node = node; seq = q }

-- a Local version of the transaction
abbrev pub is_local_of : TxId → Version → Bool
is_local_of tx v = of_tx tx v && is_local v.kind

-- one eviction, of the key that is held
abbrev pub evicts : ℕ → Option Write → List Evicted
evicts q None = []
evicts q (Some w) = record { seq = q; key = w.key } ∷ []

-- the node's transactions up to a number that have a Local version of one of the keys, by rising number, each with the first such key
abbrev pub evicted_to : NodeId → List Version → List Write → ℕ → List Evicted
evicted_to node vs ws zero = []
evicted_to node vs ws (suc n) = evicted_to node vs ws n ++ evicts (suc n) (held_key vs (named node (suc n)) ws)

-- how many of the node's transactions up to a number have a Local version
abbrev pub locals_to : NodeId → List Version → ℕ → ℕ
locals_to node vs zero = 0
locals_to node vs (suc n) = locals_to node vs n + (if list_any (is_local_of (named node (suc n))) vs then 1 else 0)

-- the version is of one of the evicted transactions
abbrev pub is_evicted : NodeId → List Evicted → Version → Bool
is_evicted node es v = same_node v.tx.node node && list_any (λ e. e.seq == v.tx.seq) es

-- no transaction above this number has a Local version of one of the keys
abbrev pub IsLast : NodeId → List Version → List Write → ℕ → Type 0
IsLast node vs ws n = (q : ℕ) → n < q → held_key vs (named node q) ws ≡ None

-- what a Replicate is taken at
abbrev pub taken_at : SlaveTurn → Option ℕ
taken_at Ignore = None
taken_at (Take ts evict) = Some ts.0

-- whom it evicts
abbrev pub evicted_by : SlaveTurn → List Evicted
evicted_by Ignore = []
evicted_by (Take ts evict) = evict

-- the timestamp after these evictions, where it is below the limit
abbrev pub after_evictions : NodeId → List Version → List ℕ → Arrived → List Evicted → Option ℕ
after_evictions node vs marks a es = below_limit (proposal (without (is_evicted node es) vs) marks a)

-- the lesser of a number and what was found before
abbrev pub least_of : Option ℕ → ℕ → ℕ
least_of None q = q
least_of (Some p) q = min p q

-- the number of the version's transaction, where it is Local, of the node, above a number and below what was found before
abbrev pub lower : NodeId → ℕ → Version → Option ℕ → Option ℕ
lower node after v found =
    if is_local v.kind && (same_node v.tx.node node && nat_lt after v.tx.seq) then Some (least_of found v.tx.seq) else found

-- the least such number of these versions, or a lesser one that was found before
abbrev pub least_from : NodeId → ℕ → Option ℕ → List Version → Option ℕ
least_from node after found [] = found
least_from node after found (v ∷ vs) = least_from node after (lower node after v found) vs

-- the next one that is evicted after a number
abbrev pub IsNext : NodeId → List Version → List Write → ℕ → Evicted → Type 0
IsNext node vs ws after e = (after < e.seq) × (evicted_to node vs ws e.seq ≡ evicted_to node vs ws after ++ e ∷ [])

-- what a Replicate comes to: a new one is taken with these evictions where the timestamp after them is below the limit; all else is
-- left alone
pub record IsSlaveTurn (new : Bool) (node : NodeId) (vs : List Version) (marks : List ℕ) (a : Arrived) (es : List Evicted) (turn : SlaveTurn) : Type 0 where
  pub taken : taken_at turn ≡ (if new then after_evictions node vs marks a es else None)
  pub evicted : evicted_by turn ≡ (if is_some (taken_at turn) then es else [])

-- the same of one that arrived, with the evictions of all that have a Local version of a written key
abbrev pub IsReplicateTurn : PartitionMap → NodeId → List Version → List ℕ → List (TxId × PartId) → Arrived → SlaveTurn → Type 0
IsReplicateTurn map node vs marks done a turn =
    (n : ℕ) → IsLast node vs a.writes n → IsSlaveTurn (is_taken map node vs done a) node vs marks a (evicted_to node vs a.writes n) turn

-- ---- the rule of a Replicate

-- each transaction of the node with a Local version of one of the keys is an undecided own one
abbrev pub HeldByOpen : Here → View → List Write → Type 0
HeldByOpen here view ws =
    (q : ℕ) (w : Write) → held_key view.versions (named here.node q) ws ≡ Some w
    → (i : ℕ) × (x : Own) × (q ≡ i + 1) × (slice_get view.own i ≡ Some x) × (is_decided x.phase ≡ false)

-- an own transaction is evicted: it conflicts with what arrived at this key
abbrev pub evict_one : Here → Arrived → Evicted → Doing → Doing
evict_one here a e d = at_own (e.seq - 1) (λ x. aborted here (e.seq - 1) (ByConflict a.tx e.key here.node) x) d

-- own transactions are evicted, in this order
abbrev pub evict_all : Here → Arrived → List Evicted → Doing → Doing
evict_all here a [] d = d
evict_all here a (e ∷ es) d = evict_all here a es (evict_one here a e d)

-- what a Replicate comes to is done: the evictions, and then it is taken
abbrev pub slave_done : Here → Arrived → SlaveTurn → Doing → Option Doing
slave_done here a Ignore d = None
slave_done here a (Take ts evict) d = Some (taken here a ts.0 (evict_all here a evict d))

-- this holds in each view of the node of which these versions and marks are a part, with these decided pairs, and in which those that
-- hold a written key are undecided
abbrev pub InSlaveViews : NodeId → PartitionMap → Arrived → List Version → List ℕ → List (TxId × PartId) → (Here → Doing → Type 0) → Type 0
InSlaveViews node map a vs marks done P =
    (here : Here) (d : Doing) → IsAt here node map → ShowsReplica d.view a vs marks → d.view.done ≡ done → HeldByOpen here d.view a.writes → P here d

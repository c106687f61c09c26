-- What a master decides by the versions and marks of the keys that it hosts.
use Rattle.std.specs.List.{list_any}
use Rattle.std.specs.Prelude.{Bool, List, None, Option, Some, false, find, if◌then◌else◌, is_some, length, map, max, nat_lt, not, option_map, slice_get, true, ℕ, ◌&&◌, ◌+◌, ◌<◌, ◌||◌, ◌≡◌}
use Rattle.partition_map.specs.Maps.{PartitionMap, leads, replicas}
use Rattle.prepare_master.specs.declared.masters.MasterTurn.{MasterTurn}
use Rattle.prepare_master.specs.declared.masters.MasterTurn.TheVariants.{Accept, Ignore, Park, Refuse}
use Rattle.prepare_master.specs.declared.masters.Reason.{Reason}
use Rattle.prepare_master.specs.declared.masters.Reason.TheVariants.{ToPark, ToRefuse}
use Rattle.str_base.specs.declared.names.KeyId.{KeyId}
use Rattle.str_base.specs.declared.names.NodeId.{NodeId}
use Rattle.str_base.specs.declared.names.PartId.{PartId}
use Rattle.str_base.specs.declared.names.Ts.{Ts}
use Rattle.str_base.specs.declared.names.TxId.{TxId}
use Rattle.str_base.specs.declared.names.Version.{Version}
use Rattle.str_base.specs.declared.names.Write.{Write}
use Rattle.str_base.specs.Versions.{mark_of, newest, of_pair, same_key, same_node, same_part}
use Rattle.str_model.specs.declared.messages.Arrived.{Arrived}
use Rattle.str_model.specs.declared.messages.Waiter.{Waiter}
use Rattle.str_model.specs.Proposals
use Rattle.str_model.specs.Proposals.{holds_pair, is_pair, parks, prepare_turn, refuses, ts_limit}
use Rattle.str_model.specs.Turns.{greatest, met}
use Rattle.str_model.specs.Views.{View}
use Rattle.str_scene.specs.Scenes.{Here, map_of}
use Rattle.version_chain.specs.ChainLists.{Each, merged}

-- what a Prepare comes to, as the rules of a node have it
abbrev pub turn_of : MasterTurn → Proposals.MasterTurn
turn_of (Accept ts) = Proposals.Accept ts.0
turn_of (Refuse by key) = Proposals.Refuse by key
turn_of (Park by) = Proposals.Park by
turn_of Ignore = Proposals.Ignore

-- the test of a reason
abbrev pub gives : Reason → Arrived → Version → Bool
gives ToRefuse a v = refuses a v
gives ToPark a v = parks a v

-- each key of the writes has a mark
abbrev pub HaveMarks : List Write → List ℕ → Type 0
HaveMarks ws marks = (i : ℕ) (w : Write) → slice_get ws i ≡ Some w → w.key.0 < length marks

-- what the new versions of these keys have to pass
abbrev pub to_pass : List Version → List ℕ → List Write → ℕ
to_pass vs marks ws = greatest (map (λ w. max (mark_of marks w.key) (newest vs w.key)) ws)

-- the timestamp that is proposed
abbrev pub proposal : List Version → List ℕ → Arrived → ℕ
proposal vs marks a = max a.lc.0 (1 + to_pass vs marks a.writes)

-- ---- a view of the node

-- the version is of another partition, and of a key that is not written
abbrev pub IsBeside : Arrived → Version → Type 0
IsBeside a v = (same_part v.part a.part ≡ false) × (list_any (λ w. same_key v.key w.key) a.writes ≡ false)

-- a view of which these versions and marks are a part: all other versions are beside what arrived
pub record ShowsReplica (view : View) (a : Arrived) (vs : List Version) (ms : List ℕ) : Type 0 where
  pub cache : List Version
  pub versions : view.versions ≡ merged cache vs
  pub beside : Each (IsBeside a) cache
  pub marks : view.marks ≡ ms

-- a node of a scene with this map
abbrev pub IsAt : Here → NodeId → PartitionMap → Type 0
IsAt here node map = (here.node ≡ node) × (map_of here.scene ≡ map)

-- this holds in each view of the node of which these versions and marks are a part, with these decided pairs and waiters
abbrev pub InReplicaViews : NodeId → PartitionMap → Arrived → List Version → List ℕ → List (TxId × PartId) → List Waiter → (Here → View → Type 0) → Type 0
InReplicaViews node map a vs marks done waiters P =
    (here : Here) (view : View) → IsAt here node map → ShowsReplica view a vs marks → view.done ≡ done → view.waiters ≡ waiters → P here view

-- the turn is what the rules of a node have for the Prepare, in each such view
abbrev pub IsPrepareTurn : NodeId → PartitionMap → Arrived → List Version → List ℕ → List (TxId × PartId) → List Waiter → Proposals.MasterTurn → Type 0
IsPrepareTurn node map a vs marks done waiters turn = InReplicaViews node map a vs marks done waiters (λ here view. turn ≡ prepare_turn here view a)

-- ---- the causes

-- the Prepare is for this master and comes for the first time
abbrev pub is_fresh : PartitionMap → NodeId → List Version → List (TxId × PartId) → List Waiter → Arrived → Bool
is_fresh map node vs done waiters a =
    leads node (replicas map a.part) && (not (same_node a.tx.node node)
    && not ((list_any (is_pair a.tx a.part) done || list_any (of_pair a.tx a.part) vs) || list_any (holds_pair a.tx a.part) waiters))

-- the first reason of a kind, by the keys in order of first write and then by the versions of each in order
abbrev pub first_reason : Reason → Arrived → List Version → Option Version
first_reason r a vs = find (gives r a) (met a.writes vs)

-- whom a refusal names, and where
abbrev pub refused_by : Proposals.MasterTurn → Option (TxId × KeyId)
refused_by (Proposals.Refuse by key) = Some (by, key)
refused_by (Proposals.Accept ts) = None
refused_by (Proposals.Park by) = None
refused_by Proposals.Ignore = None

-- whom a parked Prepare waits for
abbrev pub parked_by : Proposals.MasterTurn → Option TxId
parked_by (Proposals.Park by) = Some by
parked_by (Proposals.Refuse by key) = None
parked_by (Proposals.Accept ts) = None
parked_by Proposals.Ignore = None

-- the timestamp of an acceptance
abbrev pub accepted_at : Proposals.MasterTurn → Option ℕ
accepted_at (Proposals.Accept ts) = Some ts
accepted_at (Proposals.Park by) = None
accepted_at (Proposals.Refuse by key) = None
accepted_at Proposals.Ignore = None

-- it is left alone
abbrev pub is_ignored : Proposals.MasterTurn → Bool
is_ignored Proposals.Ignore = true
is_ignored (Proposals.Accept ts) = false
is_ignored (Proposals.Park by) = false
is_ignored (Proposals.Refuse by key) = false

-- whom the first reason to refuse names
abbrev pub refusal : Arrived → List Version → Option (TxId × KeyId)
refusal a vs = option_map (λ v. (v.tx, v.key)) (first_reason ToRefuse a vs)

-- whom the first reason to park names, where there is none to refuse
abbrev pub parking : Arrived → List Version → Option TxId
parking a vs = if is_some (first_reason ToRefuse a vs) then None else option_map (λ v. v.tx) (first_reason ToPark a vs)

-- there is no reason to refuse, and none to park
abbrev pub is_free : Arrived → List Version → Bool
is_free a vs = not (is_some (first_reason ToRefuse a vs) || is_some (first_reason ToPark a vs))

-- the timestamp, where it is below the limit
abbrev pub below_limit : ℕ → Option ℕ
below_limit ts = if nat_lt ts ts_limit then Some ts else None

-- the number of a timestamp
abbrev pub stamp_value : Ts → ℕ
stamp_value ts = ts.0

-- what a Prepare comes to, cause by cause. A new one is refused exactly by the first reason to refuse, else parked exactly for
-- the first reason to park, else accepted where the proposal is below the limit. All else is left alone.
pub record IsJudged (new : Bool) (a : Arrived) (vs : List Version) (marks : List ℕ) (turn : Proposals.MasterTurn) : Type 0 where
  pub refused : refused_by turn ≡ (if new then refusal a vs else None)
  pub parked : parked_by turn ≡ (if new then parking a vs else None)
  pub accepted : accepted_at turn ≡ (if new && is_free a vs then below_limit (proposal vs marks a) else None)
  pub ignored : is_ignored turn ≡ (not new || (is_free a vs && not (nat_lt (proposal vs marks a) ts_limit)))

-- what a new Prepare comes to, by the first reason to refuse, the first one to park, and the proposal
abbrev pub by_reasons : Option Version → Option Version → ℕ → Proposals.MasterTurn
by_reasons (Some v) parking ts = Proposals.Refuse v.tx v.key
by_reasons None (Some v) ts = Proposals.Park v.tx
by_reasons None None ts = Proposals.accepts ts

-- the same of a list of versions
abbrev pub judged : Arrived → List Version → List ℕ → Proposals.MasterTurn
judged a vs marks = by_reasons (first_reason ToRefuse a vs) (first_reason ToPark a vs) (proposal vs marks a)

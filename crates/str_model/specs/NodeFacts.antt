-- What holds of each view of a node, whatever messages came to it: after each single change, and between steps.
use Rattle.std.specs.Prelude.{Bool, List, None, Option, Some, [], false, is_some, length, map, slice_get, true, ℕ, ℤ, ◌+◌, ◌-◌, ◌<◌, ◌∷◌, ◌≡◌, ◌≤◌}
use Rattle.str_base.specs.declared.names.TxId.{TxId}
use Rattle.str_model.specs.declared.names.Got.{Got}
use Rattle.str_model.specs.declared.names.ReadDone.{ReadDone}
use Rattle.str_model.specs.Gates.{Ask, CommitAt, GateTurn, Missing, Shut, gate_of}
use Rattle.str_model.specs.Proposals.{holds_pair, ts_limit}
use Rattle.str_model.specs.Strange.{below_limit, distinct_keys, has_key, has_named_writes, has_node, has_value}
use Rattle.str_base.specs.Versions.{is_local, is_pre, of_pair, same_node, settled, stamp}
use Rattle.str_scene.specs.Scenes.{Here, Scene, Session, hosts, hosts_key, is_master, nth, part_of, participants, script_at}
use Rattle.str_model.specs.Views.{Aborted, CertWait, Closing, Committed, Global, Local, Own, Phase, Reply, View, is_decided, lc_of}
use Rattle.str_base.specs.declared.names.Version.{Version}
use Rattle.str_base.specs.declared.names.PartId.{PartId}
use Rattle.str_model.specs.declared.messages.Waiter.{Waiter}
use Rattle.partition_map.specs.declared.rows.Asked.{Asked}
use Rattle.str_base.specs.declared.names.KeyId.{KeyId}
use Rattle.str_base.specs.declared.names.NodeId.{NodeId}
use Rattle.str_scene.specs.declared.names.Op.{Op}
use Rattle.str_scene.specs.declared.names.Op.TheVariants.{Add, Del, Get, Need, Put, Puts}
use Rattle.dependency_set.specs.declared.names.Dep.{Dep}
use Rattle.str_model.specs.Scripts.{known, own_op}
use Rattle.str_base.specs.declared.names.Ts.{Ts}
use Rattle.str_scene.specs.declared.names.TxPlace.{TxPlace}
use Rattle.str_base.specs.declared.names.Value.{Value}
use Rattle.str_base.specs.declared.names.Kind.TheVariants.{Local as LocalKind}
use Rattle.str_base.specs.declared.names.Write.{Write}
use Rattle.str_model.specs.declared.messages.Arrived.{Arrived}
use Rattle.str_model.specs.declared.messages.Waiter.TheVariants.{Held, Read}
use Rattle.str_model.specs.Acts.{local_version}
use Rattle.str_model.specs.Owned.{AreTimed, Owns, WaitsFor, final_times, wrote_key}
use Rattle.str_scene.specs.SceneLimits.{Exists}
use Rattle.str_base.specs.Values.{is_below}
use Rattle.str_model.specs.Turns.{Open, own_fate}
use Rattle.str_model.specs.Strange
use Rattle.str_model.specs.Turns
use Rattle.str_base.specs.Members.{In}

-- 1 where the test is passed
abbrev pub one_if : Bool → ℕ
one_if true = 1
one_if false = 0

-- how many pass the test
abbrev pub how_many : {A : Type 0} → (A → Bool) → List A → ℕ
how_many test [] = 0
how_many test (x ∷ xs) = one_if (test x) + how_many test xs

-- the operation needs the value of the key
abbrev pub Needs : Op → KeyId → Type 0
Needs (Get l) k = l ≡ k
Needs (Add l n) k = l ≡ k
Needs (Need l n) k = l ≡ k
Needs _ k = ⊥

-- this node is the partition's master, and not the transaction's origin
pub record IsMasters (here : Here) (a : Arrived) : Type 0 where
  pub master : is_master here.scene here.node a.part ≡ true
  pub foreign : same_node a.tx.node here.node ≡ false

-- each key is written once
abbrev pub AreDistinct : List Write → Type 0
AreDistinct ws = Strange.distinct_keys (map (λ (w : Write). w.key) ws) ≡ true

-- a Local version's transaction is an own undecided one, with the version's timestamp for its local commit timestamp
pub record LocalOwner (here : Here) (v : View) (u : Version) : Type 0 where
  pub place : ℕ
  pub owner : Own
  pub node : u.tx.node.0 ≡ here.node.0
  pub seq : u.tx.seq ≡ place + 1
  pub owns : Owns v place owner
  pub lc : lc_of owner.phase ≡ Some u.ts.0
  pub open_ : is_decided owner.phase ≡ false

-- a dependency is an earlier own transaction with a local commit timestamp at or below the snapshot
pub record WeakDep (v : View) (i : ℕ) (x : Own) (dep : Dep) : Type 0 where
  pub place : ℕ
  pub owner : Own
  pub seq : dep.seq ≡ place + 1
  pub before : place < i
  pub owns : Owns v place owner
  pub rs : stamp owner.snap.rs ≡ dep.rs
  pub lc : ℕ
  pub is_lc : lc_of owner.phase ≡ Some lc
  pub below : lc ≤ x.snap.rs

-- times, Local versions and dependencies
pub record Depends (here : Here) (v : View) : Type 0 where
  pub times : AreTimed v
  pub locals : (u : Version) → In u v.versions → u.kind ≡ LocalKind → LocalOwner here v u
  pub deps : (i : ℕ) (x : Own) (dep : Dep) → Owns v i x → is_decided x.phase ≡ false → In dep x.snap.deps → WeakDep v i x dep

-- the place is one of the scene, in a session of this node (counted from 0)
pub record PlacedIn (scene : Scene) (n : ℕ) (place : TxPlace) : Type 0 where
  pub text : Session
  pub session : nth scene.sessions place.session.0 ≡ Some text
  pub node : text.node.0 ≡ n + 1
  pub index : Exists place.index (length text.txs)

-- of two of one session the earlier one is decided, and the later one sees its commit
pub record Earlier (x y : Own) : Type 0 where
  pub decided : is_decided x.phase ≡ true
  pub index : x.place.index < y.place.index
  pub final : (l : Option ℕ) (fc : ℕ) → x.phase ≡ Committed l (Some fc) → fc ≤ y.snap.rs

-- own transactions by session
pub record InOrder (scene : Scene) (n : ℕ) (own : List Own) : Type 0 where
  pub placed : (i : ℕ) (x : Own) → slice_get own i ≡ Some x → PlacedIn scene n x.place
  pub order : (i j : ℕ) (x y : Own) → i < j → slice_get own i ≡ Some x → slice_get own j ≡ Some y → x.place.session.0 ≡ y.place.session.0 → Earlier x y

-- the operation writes the key
abbrev pub WritesKey : Op → KeyId → Type 0
WritesKey (Put l n) k = l ≡ k
WritesKey (Puts l t) k = l ≡ k
WritesKey (Add l n) k = l ≡ k
WritesKey (Del l) k = l ≡ k
WritesKey _ k = ⊥

-- some operation of the list writes the key
abbrev pub WrittenIn : List Op → KeyId → Type 0
WrittenIn ops k = (j : ℕ) × (op : Op) × (slice_get ops j ≡ Some op) × WritesKey op k

-- the operations before the next one have their keys in the buffer; where it waits for certification or was certified there is no next one;
-- and each key of the buffer is one of the script, and stands once
pub record ScriptGood (here : Here) (x : Own) : Type 0 where
  pub covers : (j : ℕ) (op : Op) (k : KeyId) → j < x.next → slice_get (script_at here.scene x.place) j ≡ Some op → WritesKey op k → wrote_key k x.writes ≡ true
  pub whole : (lc : ℕ) → lc_of x.phase ≡ Some lc → own_op here x ≡ None
  pub waits_ : x.phase ≡ CertWait → own_op here x ≡ None
  pub inside : (k : KeyId) → wrote_key k x.writes ≡ true → WrittenIn (script_at here.scene x.place) k
  pub once : AreDistinct x.writes

-- the script stands at an operation that needs the key, and nothing is known of the key
abbrev pub AtNeed : Here → Own → KeyId → Type 0
AtNeed here x k = (op : Op) × (own_op here x ≡ Some op) × Needs op k × (known x k ≡ None)

-- the script stands at a need that what is known does not meet
abbrev pub AtUnmet : Here → Own → Type 0
AtUnmet here x = (k : KeyId) × (n : ℤ) × (a : Value) × (own_op here x ≡ Some (Need k n)) × (known x k ≡ Some a) × (is_below a n ≡ true)

-- Where an own transaction waits for a value or is to abort by a need. Why: so an abort as a wish has its need for a cause.
pub record Needy (here : Here) (x : Own) : Type 0 where
  pub unmet : x.phase ≡ Closing true → AtUnmet here x
  pub waits : (k : KeyId) → WaitsFor x.phase k → AtNeed here x k

-- each own transaction
abbrev pub AllNeedy : Here → View → Type 0
AllNeedy here v = (i : ℕ) (x : Own) → Owns v i x → Needy here x

-- who takes part, without what was asked and answered
abbrev pub seats : List Asked → List (PartId × NodeId)
seats parts = map {A = Asked} (λ a. (a.part, a.node)) parts

-- the Final version that a write becomes at the origin
abbrev pub final_version : Here → ℕ → ℕ → Write → Version
final_version here i fc w = settled fc (local_version here i fc w)

-- the participant has answered at or below fc
abbrev pub Answered : ℕ → Asked → Type 0
Answered fc a = (ts : Ts) × (a.ack ≡ Some ts) × (ts.0 ≤ fc)

-- an own transaction and its versions. That its participants are those of its writes is needed to find the one at a replica; that
-- there is none before is needed for answers; its Local versions become the Final ones of its commit; and a commit
-- has the answer of each participant
pub record OwnGood (here : Here) (vs : List Version) (i : ℕ) (x : Own) : Type 0 where
  pub seats_are : (lc : ℕ) → lc_of x.phase ≡ Some lc → seats x.parts ≡ seats (participants here.scene here.node x.writes)
  pub none : lc_of x.phase ≡ None → x.parts ≡ []
  pub locals : is_decided x.phase ≡ false → (lc : ℕ) → lc_of x.phase ≡ Some lc → (w : Write) → In w x.writes → In (local_version here i lc w) vs
  pub has_lc : (l : Option ℕ) (fc : ℕ) → x.phase ≡ Committed l (Some fc) → (lc : ℕ) × (l ≡ Some lc)
  pub answered : (l : Option ℕ) (fc : ℕ) → x.phase ≡ Committed l (Some fc) → (a : Asked) → In a x.parts → Answered fc a

-- each own transaction
abbrev pub AtHome : Here → View → Type 0
AtHome here v = (i : ℕ) (x : Own) → Owns v i x → OwnGood here v.versions i x

-- the Final versions of what an own transaction wrote stand in the partitions that the node has
abbrev pub HasFinals : Here → List Version → ℕ → Own → Type 0
HasFinals here vs i x = (l : Option ℕ) (fc : ℕ) → x.phase ≡ Committed l (Some fc) → (w : Write) → In w x.writes → hosts_key here w.key ≡ true → In (final_version here i fc w) vs

-- those of each own transaction. This holds as long as no old version is taken out, so it is none of the facts of a node
abbrev pub AllHaveFinals : Here → View → Type 0
AllHaveFinals here v = (i : ℕ) (x : Own) → Owns v i x → HasFinals here v.versions i x

-- the times of an own transaction
pub record OwnBelow (b : ℕ) (x : Own) : Type 0 where
  pub rs : x.snap.rs < b
  pub ffc : x.snap.ffc < b
  pub deps : (d : Dep) → In d x.snap.deps → d.rs.0 < b
  pub lc : (lc : ℕ) → lc_of x.phase ≡ Some lc → lc < b
  pub finals : (t : ℕ) → In t (final_times x.phase) → t < b
  pub acks : (a : Asked) (ts : Ts) → In a x.parts → a.ack ≡ Some ts → ts.0 < b

-- those of one who waits
abbrev pub WaiterBelow : ℕ → Waiter → Type 0
WaiterBelow b (Read tx k rs) = rs.0 < b
WaiterBelow b (Held a) = (a.rs.0 < b) × (a.lc.0 < b)

-- those of marks
abbrev pub MarksBelow : ℕ → List ℕ → Type 0
MarksBelow b ms = (t : ℕ) → In t ms → t < b

-- those of versions
abbrev pub VersionsBelow : ℕ → List Version → Type 0
VersionsBelow b vs = (q : Version) → In q vs → q.ts.0 < b

-- those of a node's view
pub record ViewBelow (b : ℕ) (v : View) : Type 0 where
  pub floor : v.floor < b
  pub marks : MarksBelow b v.marks
  pub versions : VersionsBelow b v.versions
  pub own : (x : Own) → In x v.own → OwnBelow b x
  pub waiters : (r : Waiter) → In r v.waiters → WaiterBelow b r

-- no dependency of an own undecided transaction below n has aborted, or committed with a final timestamp
abbrev pub OpenTo : View → ℕ → Type 0
OpenTo v n = (i : ℕ) (x : Own) (dep : Dep) → i < n → Owns v i x → is_decided x.phase ≡ false → In dep x.snap.deps → own_fate (slice_get v.own (dep.seq - 1)) ≡ Turns.Open

-- ---- an own transaction by itself

-- it may have stopped at an operation that it has read for
abbrev pub is_stopped : Phase → Bool
is_stopped (Closing wish) = wish
is_stopped (Aborted lc cause) = true
is_stopped _ = false

-- How far the script has come, and how much was written, read and got. A value that does not meet a need is kept, and the script does not
-- go on: then one more was read.
pub record ScriptLengths (here : Here) (x : Own) : Type 0 where
  pub next : x.next ≤ length (script_at here.scene x.place)
  pub writes : length x.writes ≤ x.next
  pub gets : length x.gets ≤ x.next
  pub reads : length x.reads ≤ length (script_at here.scene x.place)
  pub reads_next : is_stopped x.phase ≡ false → length x.reads ≤ x.next

-- One that is Local has asked no partition, and one that is Global has asked one. Who has answered was asked.
pub record AskedFacts (x : Own) : Type 0 where
  pub local : (lc : ℕ) → x.phase ≡ Local lc → (a : Asked) → In a x.parts → a.asked ≡ false
  pub global : (lc : ℕ) → x.phase ≡ Global lc → (a : Asked) × In a x.parts × (a.asked ≡ true)
  pub answered : (a : Asked) → In a x.parts → is_some a.ack ≡ true → a.asked ≡ true

-- its byte strings are those of the scene
pub record OwnValues (here : Here) (x : Own) : Type 0 where
  pub writes : (w : Write) → In w x.writes → has_value here w.value ≡ true
  pub reads : (r : ReadDone) → In r x.reads → has_value here r.value ≡ true
  pub gets : (g : Got) → In g x.gets → has_value here g.value ≡ true
  pub reply : (k : KeyId) (a : Value) (by : Option TxId) (fc : ℕ) → x.phase ≡ Reply k a by fc → has_value here a ≡ true

-- each own transaction
abbrev pub AllOwn : (Own → Type 0) → View → Type 0
AllOwn P v = (i : ℕ) (x : Own) → Owns v i x → P x

-- ---- versions

-- a version of an own transaction: that one was certified, and wrote the key
pub record OwnVersion (v : View) (u : Version) : Type 0 where
  pub place : ℕ
  pub owner : Own
  pub seq : u.tx.seq ≡ place + 1
  pub owns : Owns v place owner
  pub lc : ℕ
  pub is_lc : lc_of owner.phase ≡ Some lc
  pub write : Write
  pub written : In write owner.writes
  pub key : write.key ≡ u.key

-- A version stands in the partition of its key, which exists. Of the node's own transactions there are none but their writes; a Pre version is of another node; and
-- all but Local ones are of partitions that the node has.
pub record VersionFacts (here : Here) (v : View) (u : Version) : Type 0 where
  pub part : u.part ≡ part_of here.scene u.key
  pub key : has_key here u.key ≡ true
  pub node : has_node here u.tx.node ≡ true
  pub value : has_value here u.value ≡ true
  pub own : u.tx.node.0 ≡ here.node.0 → OwnVersion v u
  pub foreign : is_pre u.kind ≡ true → same_node u.tx.node here.node ≡ false
  pub hosted : is_local u.kind ≡ false → hosts here.scene here.node u.part ≡ true

-- ---- who waits

-- a read that waits is of a key that this node has
pub record ReadFacts (here : Here) (tx : TxId) (k : KeyId) (rs : Ts) : Type 0 where
  pub node : has_node here tx.node ≡ true
  pub key : has_key here k ≡ true
  pub hosted : hosts_key here k ≡ true
  pub below : below_limit rs ≡ true

-- A parked Prepare is of another node and came to its master; all that it names exists; its pair is parked once and has no version here. Its pair may be in the done
-- list: a Commit that no node sent is taken, and leaves the Prepare parked.
pub record ParkedFacts (here : Here) (v : View) (a : Arrived) : Type 0 where
  pub masters : IsMasters here a
  pub named : has_named_writes here a.tx a.part a.rs a.lc a.writes ≡ true
  pub once : how_many (holds_pair a.tx a.part) v.waiters ≤ 1
  pub none : (u : Version) → In u v.versions → of_pair a.tx a.part u ≡ false

-- one who waits
abbrev pub WaiterFacts : Here → View → Waiter → Type 0
WaiterFacts here v (Read tx k rs) = ReadFacts here tx k rs
WaiterFacts here v (Held a) = ParkedFacts here v a

-- ---- times

-- the transaction was certified
abbrev pub has_lc : Own → Bool
has_lc x = is_some (lc_of x.phase)

-- All times of a view are below this: what comes is below the limit, and a certification passes what stands by one.
abbrev pub times_end : View → ℕ
times_end v = ts_limit + how_many has_lc v.own

-- ---- the view

-- at each moment
pub record MomentFacts (here : Here) (v : View) : Type 0 where
  pub base : Depends here v
  pub order : InOrder here.scene (here.node.0 - 1) v.own
  pub scripts : AllOwn (ScriptGood here) v
  pub needy : AllNeedy here v
  pub lengths : AllOwn (ScriptLengths here) v
  pub homes : AtHome here v
  pub asked : AllOwn AskedFacts v
  pub values : AllOwn (OwnValues here) v
  pub versions : (u : Version) → In u v.versions → VersionFacts here v u
  pub waiters : (r : Waiter) → In r v.waiters → WaiterFacts here v r
  pub below : ViewBelow (times_end v) v
  pub marks : length v.marks ≡ length here.scene.keys.names

-- the gate waits
abbrev pub IsShut : GateTurn → Type 0
IsShut (Shut q) = Unit {0}
IsShut (Missing p n) = Unit {0}
IsShut (Ask p) = ⊥
IsShut (CommitAt fc) = ⊥

-- the gate of the i-th own transaction waits, where that one is certified and undecided
abbrev pub EndedAt : Here → View → ℕ → Type 0
EndedAt here v i = (x : Own) (lc : ℕ) → Owns v i x → is_decided x.phase ≡ false → lc_of x.phase ≡ Some lc → IsShut (gate_of here v lc x)

-- Between steps: each dependency is undecided, and the gate of each certified undecided transaction waits.
pub record NodeFacts (here : Here) (v : View) : Type 0 where
  pub moment : MomentFacts here v
  pub open_ : OpenTo v (length v.own)
  pub ended : (i : ℕ) → EndedAt here v i

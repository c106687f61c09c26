-- A step as a chain of single changes, each under the facts at which it is made. A law over runs looks at each
-- change once, and never at the order in which a step makes them.
pub use Rattle.str_model.specs.NodeFacts.{Needs, Needs, Needs, Needs, Needs, IsMasters}
use Rattle.std.proofs.Common.{List, None, Option, Some, [], false, nat_lt, refl, slice_get, subst, sym, true, ℕ, ◌++◌, ◌+◌, ◌-◌, ◌∷◌, ◌≡◌, ◌≢◌, ◌≤◌, max}
use Rattle.partition_map.specs.declared.rows.Asked.{Asked}
use Rattle.str_base.specs.declared.names.Cause.{Cause}
use Rattle.str_base.specs.declared.names.Cause.TheVariants.{Conflict as ByConflict, Late as IsLate, Lost as IsLost, Wish}
use Rattle.str_base.specs.declared.names.KeyId.{KeyId}
use Rattle.str_model.specs.declared.names.KeyMark.{KeyMark}
use Rattle.str_base.specs.declared.names.NodeId.{NodeId}
use Rattle.str_scene.specs.declared.names.Op.{Op}
use Rattle.str_scene.specs.declared.names.Op.TheVariants.{Abort as Stop, Del, Put, Puts}
use Rattle.dependency_set.specs.declared.names.Dep.{Dep}
use Rattle.str_model.specs.Scripts.{finish, finish_next, known, noted, own_op}
use Rattle.str_base.specs.declared.names.PartId.{PartId}
use Rattle.str_base.specs.declared.names.Ts.{Ts}
use Rattle.str_base.specs.declared.names.TxId.{TxId}
use Rattle.str_scene.specs.declared.names.TxPlace.{TxPlace}
use Rattle.str_base.specs.declared.names.Value.{Value}
use Rattle.str_base.specs.declared.names.Version.{Version}
use Rattle.str_base.specs.declared.names.Kind.TheVariants.{Local as LocalKind}
use Rattle.str_base.specs.declared.names.Write.{Write}
use Rattle.str_model.specs.declared.messages.Arrived.{Arrived}
use Rattle.str_model.specs.declared.messages.Body.{Body}
use Rattle.str_model.specs.declared.messages.Body.TheVariants.{Abort, Ack, Commit, Prepare, ReadReply, ReadReq, Refuse as Refusal, Replicate}
use Rattle.str_model.specs.declared.messages.Input.{Input}
use Rattle.str_model.specs.declared.messages.Input.TheVariants.{Deliver}
use Rattle.str_model.specs.declared.messages.Message.{Message}
use Rattle.str_model.specs.declared.messages.Waiter.{Waiter}
use Rattle.str_model.specs.declared.messages.Waiter.TheVariants.{Held, Read}
use Rattle.str_model.specs.Acts.{abort_came, aborted, accepted, acked, asked, begun, certified, closed, commit_came, committed, in_phase, marked, refused, replied, requested, taken, waits, with_waiters}
use Rattle.str_model.specs.Clients.{last_index, of_session, reading_limit}
use Rattle.str_model.specs.Gates.{Ask, CommitAt, gate_of}
use Rattle.str_model.specs.Proposals.{Accept, Refuse, is_known, is_parked, master_turn, proposed, ts_limit}
use Rattle.str_model.specs.Returns.{own_named, with_ack}
use Rattle.str_scene.specs.Scenes.{Here, Session, hosts, hosts_key, is_master, nth}
use Rattle.dependency_set.specs.Snapshots.{Snap}
use Rattle.str_model.specs.Steps.{decides, drop_held}
use Rattle.str_model.specs.Strange.{is_valid}
use Rattle.str_model.specs.Turns.{Away, Certified, Conflict, DepTurn, Give, Late, Lost, Plain, Speculative, Wait, cert_turn, dep_turn, left_by, read_turn, reply_turn, serve_turn}
use Rattle.str_base.specs.Versions.{of_tx, raised, same_key, same_node, stamp}
use Rattle.str_model.specs.Views.{Active, CertWait, Closing, Doing, Global, Own, ReadWait, Remote, Reply, View, is_decided, lc_of, name_of, put}
use Rattle.str_model.proofs.Changes.SnapshotsGain.{Extends}
use Rattle.str_base.specs.Members.{In}

-- where in a step a change is made: in the rule, in the turn of the i-th own transaction, or among those who wait
pub data Where : Type 0 where
  InRule : Where
  InTurn : ℕ → Where
  InWait : Where

-- a turn touches its own transaction alone, and those who wait touch none
abbrev pub Touches : Where → ℕ → Type 0
Touches InRule i = Unit {0}
Touches (InTurn j) i = i ≡ j
Touches InWait i = ⊥

abbrev pub IsOwn : Where → Doing → ℕ → Own → Type 0
IsOwn w d i x = (slice_get d.view.own i ≡ Some x) × Touches w i

-- it is its own turn
abbrev pub IsTurn : Where → Doing → ℕ → Own → Type 0
IsTurn w d i x = (slice_get d.view.own i ≡ Some x) × (w ≡ InTurn i)

pub touches_turn : (w : Where) (i : ℕ) → w ≡ InTurn i → Touches w i
touches_turn w i e = subst (λ v. Touches v i) (sym e) refl

-- the message is the one that the step is given, and it is not strange
abbrev pub Comes : Here → Input → NodeId → Body → Type 0
Comes here input from body = (m : Message) × (input ≡ Deliver m) × (m.sender ≡ from) × (m.body ≡ body) × (is_valid here m ≡ true)

-- an undecided transaction goes on: what never changes of it
pub record GoesOn (v : View) (x y : Own) : Type 0 where
  pub was_open : is_decided x.phase ≡ false
  pub is_open : is_decided y.phase ≡ false
  pub same_place : y.place ≡ x.place
  pub snap : Extends v x.snap y.snap
  pub same_lc : lc_of y.phase ≡ lc_of x.phase

-- the operation needs no value
abbrev pub NeedsNone : Op → Type 0
NeedsNone (Put l n) = Unit {0}
NeedsNone (Puts l t) = Unit {0}
NeedsNone (Del l) = Unit {0}
NeedsNone _ = ⊥

-- a key is read: for the first time by the operation that needs it, or again by a transaction that waits at home
pub data Reads (here : Here) (x : Own) (k : KeyId) : Type 0 where
  reads_new : (op : Op) → x.phase ≡ Active → own_op here x ≡ Some op → Needs op k → known x k ≡ None → Reads here x k
  reads_again : x.phase ≡ ReadWait k → Reads here x k

-- the mark of the key has just been raised to t
abbrev pub JustMarked : View → KeyId → ℕ → Type 0
JustMarked v k t = (ms : List ℕ) × (v.marks ≡ raised ms k t)

-- a read of another node has come for a key that this node has, and has left its mark
abbrev pub ComesToRead : Here → Input → Doing → NodeId → TxId → KeyId → Ts → Type 0
ComesToRead here input d from tx k rs =
    (m : Message) × (input ≡ Deliver m) × (m.sender ≡ from) × (m.body ≡ ReadReq tx k rs) × (is_valid here m ≡ true) × JustMarked d.view k rs.0 × (hosts_key here k ≡ true)

-- what was read, and the snapshot then
pub data ReadsTo (here : Here) (v : View) (snap : Snap) (k : KeyId) (a : Value) (by : Option TxId) (new : Snap) : Type 0 where
  to_final : (fc : ℕ) → read_turn here v snap k ≡ Plain a by fc new → ReadsTo here v snap k a by new
  to_local : (u : TxId) → by ≡ Some u → read_turn here v snap k ≡ Speculative a u new → ReadsTo here v snap k a by new

-- it has writes and asks to commit: for the first time, or again
pub data AsksCommit (here : Here) (x : Own) : Type 0 where
  asks_new : x.phase ≡ Active → own_op here x ≡ None → x.writes ≢ [] → AsksCommit here x
  asks_again : x.phase ≡ CertWait → AsksCommit here x

-- an own transaction that asks to commit
abbrev pub IsAsking : Here → Where → Doing → ℕ → Own → Type 0
IsAsking here w d i x = (slice_get d.view.own i ≡ Some x) × Touches w i × AsksCommit here x

-- what an undecided transaction becomes, change by change
pub data Change (here : Here) (input : Input) (d : Doing) (i : ℕ) (x : Own) : Own → Type 0 where
  ch_resolve : (t : DepTurn) → dep_turn d.view.own x.snap ≡ t → Change here input d i x (record x { snap = left_by t x.snap })
  ch_known : (op : Op) (k : KeyId) (a : Value) → x.phase ≡ Active → own_op here x ≡ Some op → Needs op k → known x k ≡ Some a → Change here input d i x (finish op a x)
  ch_blind : (op : Op) (a : Value) → x.phase ≡ Active → own_op here x ≡ Some op → NeedsNone op → Change here input d i x (finish op a x)
  ch_read : (k : KeyId) (a : Value) (by : Option TxId) (snap : Snap) → Reads here x k → JustMarked d.view k x.snap.rs → ReadsTo here d.view x.snap k a by snap
      → Change here input d i x (finish_next (own_op here x) a (noted k a by snap x))
  ch_wait : (k : KeyId) (by : TxId) → Reads here x k → JustMarked d.view k x.snap.rs → read_turn here d.view x.snap k ≡ Wait by → Change here input d i x (in_phase (ReadWait k) x)
  ch_away : (k : KeyId) (master : NodeId) → Reads here x k → JustMarked d.view k x.snap.rs → read_turn here d.view x.snap k ≡ Away master → Change here input d i x (in_phase (Remote k) x)
  ch_reply : (from : NodeId) (tx : TxId) (l k : KeyId) (a : Value) (by : Option TxId) (fc : Ts) → Comes here input from (ReadReply tx k a by fc) → own_named here tx d ≡ Some x
      → i ≡ tx.seq - 1 → x.phase ≡ Remote l → same_key l k ≡ true → Change here input d i x (in_phase (Reply k a by fc.0) x)
  ch_take : (k : KeyId) (a b : Value) (by of : Option TxId) (fc gc : ℕ) (snap : Snap) → x.phase ≡ Reply k a by fc → reply_turn here x.snap a by fc ≡ Plain b of gc snap
      → Change here input d i x (finish_next (own_op here x) b (noted k b of snap x))
  ch_close : x.phase ≡ Active → own_op here x ≡ None → x.writes ≡ [] → Change here input d i x (in_phase (Closing false) x)
  ch_gate : AsksCommit here x → Change here input d i x (in_phase CertWait x)

-- an undecided transaction goes on by one of these changes
pub record Goes (here : Here) (input : Input) (d : Doing) (i : ℕ) (x y : Own) : Type 0 where
  pub goes : GoesOn d.view x y
  pub change : Change here input d i x y

-- it goes on to wait for the value of a key from the node to which the read goes
pub record GoesAway (here : Here) (input : Input) (d : Doing) (i : ℕ) (k : KeyId) (master : NodeId) (x : Own) : Type 0 where
  pub goes : GoesOn d.view x (in_phase (Remote k) x)
  pub change : Change here input d i x (in_phase (Remote k) x)
  pub away : read_turn here d.view x.snap k ≡ Away master

-- the script wishes to abort: its next operation is an abort, or it closes at a need that is not met and has no dependency left
pub data Wishing (here : Here) (x : Own) : Type 0 where
  at_abort : x.phase ≡ Active → own_op here x ≡ Some Stop → Wishing here x
  at_need : x.phase ≡ Closing true → x.snap.deps ≡ [] → Wishing here x

-- why a transaction aborts
pub data Why (here : Here) (input : Input) (d : Doing) (i : ℕ) (x : Own) : Cause → Type 0 where
  by_script : Wishing here x → Why here input d i x Wish
  by_lost : (q f : ℕ) (es : List Dep) → dep_turn d.view.own x.snap ≡ Lost q f es → Why here input d i x (IsLost (record { node = here.node; seq = q }))
  by_late : (q fc f : ℕ) (es : List Dep) → dep_turn d.view.own x.snap ≡ Late q fc f es → Why here input d i x (IsLate (record { node = here.node; seq = q }) (stamp fc))
  by_certification : (u : TxId) (k : KeyId) → cert_turn here d.view x.snap x.writes ≡ Conflict u k → Why here input d i x (ByConflict u k here.node)
  by_eviction : (from : NodeId) (a : Arrived) (w : Write) → Comes here input from (Replicate a.tx a.part a.rs a.lc a.writes) → Why here input d i x (ByConflict a.tx w.key here.node)
  by_refusal : (from : NodeId) (t : TxId) (p : PartId) (u : TxId) (k : KeyId) → Comes here input from (Refusal t p u k) → Why here input d i x (ByConflict u k from)

-- a Prepare is here: it comes for the first time, or it is held
pub data IsHere (here : Here) (input : Input) (d : Doing) (a : Arrived) : Type 0 where
  it_comes : (from : NodeId) → Comes here input from (Prepare a.tx a.part a.rs a.lc a.writes) → is_known d.view a.tx a.part ≡ false → is_parked d.view a.tx a.part ≡ false
      → IsMasters here a → IsHere here input d a
  it_waits : (kept rest : List Waiter) → d.view.waiters ≡ kept ++ Held a ∷ rest → IsHere here input d a

-- the answer is one to this transaction, of a participant whose partition it has asked and that has not answered
pub record KeepsAck (here : Here) (i : ℕ) (x : Own) (from : NodeId) (tx : TxId) (p : PartId) (ts : Ts) (parts : List Asked) : Type 0 where
  pub named : tx ≡ name_of here i
  pub parts_are : with_ack x.parts p from ts.0 ≡ Some parts

-- who still waits once it is judged: one who was held leaves
abbrev pub left_waiting : {here : Here} {input : Input} {d : Doing} {a : Arrived} → IsHere here input d a → List Waiter
left_waiting {d = d} (it_comes from c u z m) = d.view.waiters
left_waiting (it_waits kept rest q) = kept ++ rest

-- one who begins to wait has just come; a read has left its mark
pub data Arrives (here : Here) (input : Input) (d : Doing) : Waiter → Type 0 where
  a_read : (from : NodeId) (tx : TxId) (k : KeyId) (rs : Ts) → ComesToRead here input d from tx k rs → Arrives here input d (Read tx k rs)
  a_prepare : (from : NodeId) (a : Arrived) → Comes here input from (Prepare a.tx a.part a.rs a.lc a.writes) → is_known d.view a.tx a.part ≡ false → is_parked d.view a.tx a.part ≡ false
      → IsMasters here a → Arrives here input d (Held a)

-- a read that has waited is answered by its reply; a parked Prepare leaves where it is judged
pub data Served (v : View) : Waiter → Type 0 where
  s_read : (tx : TxId) (k : KeyId) (rs : Ts) → Served v (Read tx k rs)

-- one who is answered waits no more
pub record Leaves (v : View) (kept rest : List Waiter) (r : Waiter) : Type 0 where
  pub waiters : v.waiters ≡ kept ++ r ∷ rest
  pub served : Served v r

-- the place is that of the session's next transaction: the first one, or the one after the last that began, which is decided
pub data NextPlace (own : List Own) (place : TxPlace) : Type 0 where
  is_first : last_index (of_session place.session) own ≡ None → place.index ≡ 1 → NextPlace own place
  is_next : (i : ℕ) (x : Own) → last_index (of_session place.session) own ≡ Some i → slice_get own i ≡ Some x → is_decided x.phase ≡ true
      → place.index ≡ x.place.index + 1 → NextPlace own place

-- a transaction may begin: the session is one of this node, the place is its next one, and the timestamp is at least the floor, and
-- above it at most the limit of readings
pub record Begins (here : Here) (place : TxPlace) (rs : ℕ) (d : Doing) : Type 0 where
  pub above : d.view.floor ≤ rs
  pub most : rs ≤ max reading_limit d.view.floor
  pub text : Session
  pub session : nth here.scene.sessions place.session.0 ≡ Some text
  pub node : same_node text.node here.node ≡ true
  pub ops : List Op
  pub script : nth text.txs place.index ≡ Some ops
  pub next : NextPlace d.view.own place

-- the mark that rises is for a read of an own transaction, or for one that has come
pub data IsReading (here : Here) (input : Input) (d : Doing) (k : KeyId) (t : ℕ) : Type 0 where
  own_reading : (i : ℕ) (x : Own) → slice_get d.view.own i ≡ Some x → t ≡ x.snap.rs → IsReading here input d k t
  far_reading : (from : NodeId) (tx : TxId) (rs : Ts) → t ≡ rs.0 → Comes here input from (ReadReq tx k rs) → IsReading here input d k t

-- the read was asked for by the message that has come, and has left its mark, or it waits here
pub data IsAsked (here : Here) (input : Input) (d : Doing) (tx : TxId) (k : KeyId) (rs : ℕ) : Type 0 where
  asked_now : (from : NodeId) (t : Ts) → t.0 ≡ rs → ComesToRead here input d from tx k t → IsAsked here input d tx k rs
  asked_before : (t : Ts) → t.0 ≡ rs → In (Read tx k t) d.view.waiters → IsAsked here input d tx k rs

-- a read of another node is answered
pub record Serves (here : Here) (input : Input) (d : Doing) (tx : TxId) (k : KeyId) (rs : ℕ) (v : Value) (by : Option TxId) (fc : ℕ) : Type 0 where
  pub gives : serve_turn d.view.versions k rs ≡ Give v by fc
  pub was_asked : IsAsked here input d tx k rs

-- no undecided own transaction of these places has a Local version of one of the keys that arrived
abbrev pub NoneHeld : Here → Arrived → Doing → (ℕ → Type 0) → Type 0
NoneHeld here a d Of =
    (i : ℕ) (x : Own) (v : Version) (w : Write) → Of i → slice_get d.view.own i ≡ Some x → is_decided x.phase ≡ false → In v d.view.versions → In w a.writes
    → v.key ≡ w.key → of_tx (name_of here i) v ≡ true → v.kind ≡ LocalKind → ⊥

-- a Replicate may be taken by a replica that is a slave: its timestamp is below the limit, the pair is new here, and no undecided own transaction has a
-- Local version of one of its keys
pub record Takes (here : Here) (d : Doing) (a : Arrived) : Type 0 where
  pub below : nat_lt (proposed d.view a) ts_limit ≡ true
  pub unknown : is_known d.view a.tx a.part ≡ false
  pub slave : is_master here.scene here.node a.part ≡ false
  pub hosted : hosts here.scene here.node a.part ≡ true
  pub foreign : same_node a.tx.node here.node ≡ false
  pub none_held : NoneHeld here a d (λ i. Unit {0})

pub data Act (here : Here) (input : Input) (w : Where) : Doing → Doing → Type 0 where
  act_begin : (place : TxPlace) (rs : ℕ) (d : Doing) → w ≡ InRule → Begins here place rs d → Act here input w d (begun place rs d)
  act_mark : (k : KeyId) (t : ℕ) (d : Doing) → IsReading here input d k t → Act here input w d (marked k t d)
  act_put : (i : ℕ) (x y : Own) (d : Doing) → IsOwn w d i x → Goes here input d i x y → Act here input w d (put i y d)
  act_request : (i : ℕ) (k : KeyId) (master : NodeId) (x : Own) (d : Doing) → IsOwn w d i x → GoesAway here input d i k master x → Act here input w d (requested here i k master x d)
  act_certify : (i lc : ℕ) (snap : Snap) (x : Own) (d : Doing) → IsAsking here w d i x → is_decided x.phase ≡ false → lc_of x.phase ≡ None
      → cert_turn here d.view x.snap x.writes ≡ Certified lc snap → Act here input w d (certified here i lc snap x d)
  act_ask : (i lc : ℕ) (p : PartId) (x : Own) (d : Doing) → IsOwn w d i x → is_decided x.phase ≡ false → lc_of x.phase ≡ Some lc
      → gate_of here d.view lc x ≡ Ask p → Act here input w d (asked here i lc p x d)
  act_ack : (i lc : ℕ) (from : NodeId) (tx : TxId) (p : PartId) (ts : Ts) (parts : List Asked) (x : Own) (d : Doing) → IsOwn w d i x → Comes here input from (Ack tx p ts)
      → x.phase ≡ Global lc → KeepsAck here i x from tx p ts parts → Act here input w d (acked i parts x d)
  act_abort : (i : ℕ) (cause : Cause) (x : Own) (d : Doing) → IsOwn w d i x → is_decided x.phase ≡ false → Why here input d i x cause
      → Act here input w d (aborted here i cause x d)
  act_commit : (i lc fc : ℕ) (x : Own) (d : Doing) → IsTurn w d i x → lc_of x.phase ≡ Some lc → x.snap.deps ≡ [] → lc ≤ fc
      → is_decided x.phase ≡ false → gate_of here d.view lc x ≡ CommitAt fc → Act here input w d (committed here i lc fc x d)
  act_close : (i : ℕ) (x : Own) (d : Doing) → IsTurn w d i x → x.phase ≡ Closing false → x.snap.deps ≡ [] → Act here input w d (closed here i x d)
  act_accept : (a : Arrived) (ts : ℕ) (d : Doing) (h : IsHere here input d a) → master_turn d.view a ≡ Accept ts
      → Act here input w d (accepted here a ts (with_waiters (left_waiting h) d))
  act_refuse : (a : Arrived) (by : TxId) (k : KeyId) (d : Doing) (h : IsHere here input d a) → master_turn d.view a ≡ Refuse by k
      → Act here input w d (refused here a by k (with_waiters (left_waiting h) d))
  act_take : (from : NodeId) (a : Arrived) (d : Doing) → Comes here input from (Replicate a.tx a.part a.rs a.lc a.writes)
      → Takes here d a → Act here input w d (taken here a (proposed d.view a) d)
  act_wait : (r : Waiter) (d : Doing) → Arrives here input d r → Act here input w d (waits r d)
  act_unwait : (kept rest : List Waiter) (r : Waiter) (d : Doing) → Leaves d.view kept rest r → Act here input w d (with_waiters (kept ++ rest) d)
  act_reply : (tx : TxId) (k : KeyId) (rs : ℕ) (v : Value) (by : Option TxId) (fc : ℕ) (d : Doing) → Serves here input d tx k rs v by fc
      → Act here input w d (replied here tx k v by fc d)
  act_commit_came : (from : NodeId) (tx : TxId) (p : PartId) (fc : Ts) (ms : List KeyMark) (d : Doing) → Comes here input from (Commit tx p fc ms)
      → decides here tx p d.view ≡ true → Act here input w d (commit_came tx p fc.0 ms d)
  act_abort_came : (from : NodeId) (tx : TxId) (p : PartId) (d : Doing) → Comes here input from (Abort tx p)
      → decides here tx p d.view ≡ true → Act here input w d (abort_came tx p (drop_held tx p d.view.waiters) d)

pub data Path (here : Here) (input : Input) (w : Where) : Doing → Doing → Type 0 where
  stay : (d : Doing) → Path here input w d d
  more : (d e f : Doing) → Path here input w d e → Act here input w e f → Path here input w d f

pub one : {here : Here} {input : Input} {w : Where} {d e : Doing} → Act here input w d e → Path here input w d e
one {d = d} {e = e} a = more d d e (stay d) a

pub and_then : {here : Here} {input : Input} {w : Where} (d e f : Doing) → Path here input w d e → Path here input w e f → Path here input w d f
and_then d e f p (stay e') = p
and_then d e f p (more e' g f' q a) = more d g f (and_then d e g p q) a

-- a path to a state, where there is one
abbrev pub PathTo : Here → Input → Where → Doing → Option Doing → Type 0
PathTo here input w d None = Unit {0}
PathTo here input w d (Some e) = Path here input w d e

-- ---- the principle: what each change keeps, a whole path keeps

module _ (here : Here) (input : Input) (w : Where) (I : Doing → Type 0) (keeps : (d e : Doing) → Act here input w d e → I d → I e) where
  pub along : (d e : Doing) → Path here input w d e → I d → I e
  along d e (stay e') i = i
  along d e (more d' m e' p a) i = keeps m e a (along d m p i)

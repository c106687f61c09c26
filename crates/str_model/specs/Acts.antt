-- The single changes of a node's view: each takes what was done so far in a step and does one thing more.
use Rattle.std.specs.Prelude.{Bool, List, None, Option, Some, [], filter, if◌then◌else◌, length, map, max, slice_set, ℕ, ◌&&◌, ◌++◌, ◌+◌, ◌||◌, ◌∷◌}
use Rattle.partition_map.specs.declared.rows.Asked.{Asked}
use Rattle.str_base.specs.declared.names.Cause.{Cause}
use Rattle.str_base.specs.declared.names.KeyId.{KeyId}
use Rattle.str_model.specs.declared.names.KeyMark.{KeyMark}
use Rattle.str_base.specs.declared.names.Kind.TheVariants.{Local as LocalKind, Pre}
use Rattle.str_base.specs.declared.names.NodeId.{NodeId}
use Rattle.str_base.specs.declared.names.PartId.{PartId}
use Rattle.str_base.specs.declared.names.TxId.{TxId}
use Rattle.str_scene.specs.declared.names.TxPlace.{TxPlace}
use Rattle.str_base.specs.declared.names.Value.{Value}
use Rattle.str_base.specs.declared.names.Version.{Version}
use Rattle.str_base.specs.declared.names.Write.{Write}
use Rattle.str_model.specs.declared.messages.Answer.{Answer}
use Rattle.str_model.specs.declared.messages.Arrived.{Arrived}
use Rattle.str_model.specs.declared.messages.Body.TheVariants.{Abort, Ack, Commit, Prepare, ReadReply, ReadReq, Refuse, Replicate}
use Rattle.str_model.specs.declared.messages.Message.{Message}
use Rattle.str_model.specs.declared.messages.Outcome.{Outcome}
use Rattle.str_model.specs.declared.messages.Outcome.TheVariants.{Aborted as Aborts, Committed as Commits}
use Rattle.str_model.specs.declared.messages.Waiter.{Waiter}
use Rattle.str_scene.specs.Scenes.{Here, first_or, hosts, in_part, leads, others, part_of, participants, replicas}
use Rattle.dependency_set.specs.Snapshots.{Snap}
use Rattle.str_base.specs.Versions.{finalise, insert_all, mark_of, of_pair, of_tx, raised, same_part, settled, stamp, without}
use Rattle.str_model.specs.Views.{Aborted, Active, Committed, Doing, Global, Local, Own, Phase, Remote, View, lc_of, letter, name_of, put, release, send}

-- ---- own transactions

-- an own transaction in another phase
abbrev pub in_phase : Phase → Own → Own
in_phase p x = record x { phase = p }

-- an own transaction that is decided, in this phase: what its gets gave was handed out with its answer
abbrev pub decided_as : Phase → Own → Own
decided_as p x = record x { gets = []; phase = p }

-- an own transaction that has just begun
abbrev pub fresh : TxPlace → ℕ → Own
fresh place rs =
    record { place = place; snap = record { rs = rs; ffc = 0; deps = [] }; next = 0; writes = []; reads = []; gets = []; parts = []; phase = Active }

-- a transaction begins
unfoldable pub begun : TxPlace → ℕ → Doing → Doing
begun place rs d =
    record d { view = record (d.view) { floor = rs; own = d.view.own ++ fresh place rs ∷ [] }; added = d.added + 1 }

-- the mark of a key rises
unfoldable pub marked : KeyId → ℕ → Doing → Doing
marked k rs d = record d { view = record (d.view) { marks = raised d.view.marks k rs } }

-- the answer of an own transaction
abbrev pub answer_of : Here → ℕ → Own → Outcome → Answer
answer_of here i x o = record { tx = name_of here i; place = x.place; rs = stamp x.snap.rs; outcome = o }

-- the participants whose partition was asked
abbrev pub asked_ones : List Asked → List Asked
asked_ones parts = filter (λ a. a.asked) parts

-- who is told of an abort
abbrev pub abort_letters : Here → ℕ → List Asked → List Message
abort_letters here i parts = map (λ a. letter here a.node (Abort (name_of here i) a.part)) (asked_ones parts)

-- a transaction aborts
unfoldable pub aborted : Here → ℕ → Cause → Own → Doing → Doing
aborted here i cause x d =
    record d {
      view = record (d.view) {
        versions = without (of_tx (name_of here i)) d.view.versions;
        own = slice_set d.view.own i (decided_as (Aborted (lc_of x.phase) cause) x);
      };
      sent = d.sent ++ abort_letters here i x.parts;
      released = release (answer_of here i x (Aborts cause)) d.released;
    }

-- the marks of the written keys of a partition, in order of first write
abbrev pub marks_in : Here → View → PartId → List Write → List KeyMark
marks_in here view p ws =
    map (λ w. record { key = w.key; mark = stamp (mark_of view.marks w.key) }) (filter (in_part here.scene p) ws)

-- who is told of a commit
abbrev pub commit_letters : Here → ℕ → Own → ℕ → View → List Message
commit_letters here i x fc view =
    map (λ a. letter here a.node (Commit (name_of here i) a.part (stamp fc) (marks_in here view a.part x.writes))) x.parts

-- a version of the transaction in a partition that is hosted here
abbrev pub is_hosted_of : Here → TxId → Version → Bool
is_hosted_of here tx v = of_tx tx v && hosts here.scene here.node v.part

-- hosted versions of the transaction become Final, cached ones are taken out
abbrev pub decided_versions : Here → TxId → ℕ → List Version → List Version
decided_versions here tx fc vs =
    insert_all (map (settled fc) (filter (is_hosted_of here tx) vs)) (without (of_tx tx) vs)

-- a transaction with writes commits
unfoldable pub committed : Here → ℕ → ℕ → ℕ → Own → Doing → Doing
committed here i lc fc x d =
    record d {
      view = record (d.view) {
        versions = decided_versions here (name_of here i) fc d.view.versions;
        floor = max d.view.floor fc;
        own = slice_set d.view.own i (decided_as (Committed (Some lc) (Some fc)) x);
      };
      sent = d.sent ++ commit_letters here i x fc d.view;
      released = release (answer_of here i x (Commits (Some (stamp fc)) x.gets)) d.released;
    }

-- a commit without writes
unfoldable pub closed : Here → ℕ → Own → Doing → Doing
closed here i x d =
    record d {
      view = record (d.view) { own = slice_set d.view.own i (decided_as (Committed None None) x) };
      released = release (answer_of here i x (Commits None x.gets)) d.released;
    }

-- the Local version that a write becomes
abbrev pub local_version : Here → ℕ → ℕ → Write → Version
local_version here i lc w =
    record { key = w.key; part = part_of here.scene w.key; tx = name_of here i; ts = stamp lc; value = w.value; kind = LocalKind }

-- a transaction is certified
unfoldable pub certified : Here → ℕ → ℕ → Snap → Own → Doing → Doing
certified here i lc snap x d =
    record d {
      view = record (d.view) {
        versions = insert_all (map (local_version here i lc) x.writes) d.view.versions;
        floor = max d.view.floor lc;
        own = slice_set d.view.own i (record x { snap = snap; parts = participants here.scene here.node x.writes; phase = Local lc });
      };
      added = d.added + length x.writes;
    }

-- the messages that ask a partition: Prepare to its master elsewhere, else Replicate to each slave
abbrev pub ask_letters : Here → ℕ → ℕ → Own → PartId → List NodeId → List Message
ask_letters here i lc x p rs =
    let ws = filter (in_part here.scene p) x.writes in
    if leads here.node rs
    then map (λ r. letter here r (Replicate (name_of here i) p (stamp x.snap.rs) (stamp lc) ws)) (others here.node rs)
    else letter here (first_or here.node rs) (Prepare (name_of here i) p (stamp x.snap.rs) (stamp lc) ws) ∷ []

-- the participants with the partition asked
abbrev pub with_asked : PartId → List Asked → List Asked
with_asked p parts = map {A = Asked} (λ a. record a { asked = a.asked || same_part a.part p }) parts

-- a partition is asked
unfoldable pub asked : Here → ℕ → ℕ → PartId → Own → Doing → Doing
asked here i lc p x d =
    send (ask_letters here i lc x p (replicas here.scene p)) (put i (record x { parts = with_asked p x.parts; phase = Global lc }) d)

-- an answer of a participant is kept
unfoldable pub acked : ℕ → List Asked → Own → Doing → Doing
acked i parts x d = put i (record x { parts = parts }) d

-- a read goes to the master of its key
unfoldable pub requested : Here → ℕ → KeyId → NodeId → Own → Doing → Doing
requested here i k master x d =
    send (letter here master (ReadReq (name_of here i) k (stamp x.snap.rs)) ∷ []) (put i (in_phase (Remote k) x) d)

-- ---- what is held for others

-- the Pre version that a write becomes
abbrev pub pre_version : Arrived → ℕ → Write → Version
pre_version a ts w = record { key = w.key; part = a.part; tx = a.tx; ts = stamp ts; value = w.value; kind = Pre }

-- what the master sends on to the slaves but the origin
abbrev pub copies : Here → Arrived → List NodeId → List Message
copies here a rs =
    map (λ r. letter here r (Replicate a.tx a.part a.rs a.lc a.writes)) (others a.tx.node (others here.node rs))

-- the Pre versions of what arrived are inserted
abbrev pub placed : Arrived → ℕ → Doing → Doing
placed a ts d =
    record d {
      view = record (d.view) { versions = insert_all (map (pre_version a ts) a.writes) d.view.versions };
      added = d.added + length a.writes;
    }

-- the master accepts
unfoldable pub accepted : Here → Arrived → ℕ → Doing → Doing
accepted here a ts d =
    send (letter here a.tx.node (Ack a.tx a.part (stamp ts)) ∷ copies here a (replicas here.scene a.part)) (placed a ts d)

-- a slave takes
unfoldable pub taken : Here → Arrived → ℕ → Doing → Doing
taken here a ts d = send (letter here a.tx.node (Ack a.tx a.part (stamp ts)) ∷ []) (placed a ts d)

-- the pair enters the done list
abbrev pub with_done : TxId → PartId → View → View
with_done tx part v = record v { done = v.done ++ (tx, part) ∷ [] }

-- the master refuses
unfoldable pub refused : Here → Arrived → TxId → KeyId → Doing → Doing
refused here a by k d =
    send (letter here a.tx.node (Refuse a.tx a.part by k) ∷ []) (record d { view = with_done a.tx a.part d.view; added = d.added + 1 })

-- one more waits
unfoldable pub waits : Waiter → Doing → Doing
waits w d = record d { view = record (d.view) { waiters = d.view.waiters ++ w ∷ [] }; added = d.added + 1 }

-- those who wait become these
abbrev pub with_waiters : List Waiter → Doing → Doing
with_waiters ws d = record d { view = record (d.view) { waiters = ws } }

-- a read is answered
unfoldable pub replied : Here → TxId → KeyId → Value → Option TxId → ℕ → Doing → Doing
replied here tx k v by fc d = send (letter here tx.node (ReadReply tx k v by (stamp fc)) ∷ []) d

-- all these marks rise
abbrev pub raise_all : List KeyMark → List ℕ → List ℕ
raise_all [] marks = marks
raise_all (m ∷ ms) marks = raise_all ms (raised marks m.key m.mark.0)

-- a replica takes a commit
unfoldable pub commit_came : TxId → PartId → ℕ → List KeyMark → Doing → Doing
commit_came tx part fc ms d =
    record d {
      view = record (with_done tx part d.view) {
        marks = raise_all ms d.view.marks;
        versions = finalise (of_pair tx part) fc d.view.versions;
      };
      added = d.added + 1;
    }

-- a replica takes an abort
unfoldable pub abort_came : TxId → PartId → List Waiter → Doing → Doing
abort_came tx part ws d =
    record d {
      view = record (with_done tx part d.view) { versions = without (of_pair tx part) d.view.versions; waiters = ws };
      added = d.added + 1;
    }

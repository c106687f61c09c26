-- The plain view of a node, and what a step has done so far.
use Rattle.std.specs.Prelude.{Bool, List, None, Option, Some, [], false, if◌then◌else◌, nat_lt, slice_set, true, ℕ, ◌++◌, ◌+◌, ◌∷◌}
use Rattle.partition_map.specs.declared.rows.Asked.{Asked}
use Rattle.str_base.specs.declared.names.Cause.{Cause}
use Rattle.str_model.specs.declared.names.Got.{Got}
use Rattle.str_base.specs.declared.names.KeyId.{KeyId}
use Rattle.str_base.specs.declared.names.NodeId.{NodeId}
use Rattle.str_base.specs.declared.names.PartId.{PartId}
use Rattle.str_model.specs.declared.names.ReadDone.{ReadDone}
use Rattle.str_base.specs.declared.names.TxId.{TxId}
use Rattle.str_scene.specs.declared.names.TxPlace.{TxPlace}
use Rattle.str_base.specs.declared.names.Value.{Value}
use Rattle.str_base.specs.declared.names.Version.{Version}
use Rattle.str_base.specs.declared.names.Write.{Write}
use Rattle.str_model.specs.declared.messages.Answer.{Answer}
use Rattle.str_model.specs.declared.messages.Body.{Body}
use Rattle.str_model.specs.declared.messages.Message.{Message}
use Rattle.str_model.specs.declared.messages.Waiter.{Waiter}
use Rattle.str_scene.specs.Scenes.{Here}
use Rattle.dependency_set.specs.Snapshots.{Snap}

-- a phase; that of a certified or decided transaction keeps its local commit timestamp, where it has one
pub data Phase : Type 0 where
  Active : Phase
  ReadWait : KeyId → Phase
  Remote : KeyId → Phase
  Reply : KeyId → Value → Option TxId → ℕ → Phase
  CertWait : Phase
  Closing : Bool → Phase
  Local : ℕ → Phase
  Global : ℕ → Phase
  Committed : Option ℕ → Option ℕ → Phase
  Aborted : Option ℕ → Cause → Phase

-- an own transaction; the i-th of the list, from 0, has the number i + 1; its participants are listed when it is certified
pub record Own : Type 0 where
  pub place : TxPlace
  pub snap : Snap
  pub next : ℕ
  pub writes : List Write
  pub reads : List ReadDone
  pub gets : List Got
  pub parts : List Asked
  pub phase : Phase

-- the plain view of a node
pub record View : Type 0 where
  pub versions : List Version
  pub marks : List ℕ
  pub floor : ℕ
  pub own : List Own
  pub waiters : List Waiter
  pub done : List (TxId × PartId)

-- a node's view, the messages and answers of the step so far, and how many versions and list items it has added
pub record Doing : Type 0 where
  pub view : View
  pub sent : List Message
  pub released : List Answer
  pub added : ℕ

-- a step at its start
abbrev pub starts : View → Doing
starts v = record { view = v; sent = []; released = []; added = 0 }

-- the name of the i-th own transaction
abbrev pub name_of : Here → ℕ → TxId
name_of here i = record { node = here.node; seq = i + 1 }

-- a message of this node
abbrev pub letter : Here → NodeId → Body → Message
letter here to body = record { sender = here.node; receiver = to; body = body }

-- these messages are sent
abbrev pub send : List Message → Doing → Doing
send ms d = record d { sent = d.sent ++ ms }

-- the i-th own transaction becomes x
abbrev pub put : ℕ → Own → Doing → Doing
put i x d = record d { view = record (d.view) { own = slice_set d.view.own i x } }

-- the transaction is committed or aborted
abbrev pub is_decided : Phase → Bool
is_decided Active = false
is_decided (ReadWait k) = false
is_decided (Remote k) = false
is_decided (Reply k v by fc) = false
is_decided CertWait = false
is_decided (Closing wish) = false
is_decided (Local lc) = false
is_decided (Global lc) = false
is_decided (Committed lc fc) = true
is_decided (Aborted lc cause) = true

-- whether the phase is one of a transaction that was certified and is undecided
abbrev pub is_certified : Phase → Bool
is_certified (Local lc) = true
is_certified (Global lc) = true
is_certified _ = false

-- into a list by rising number
abbrev pub release : Answer → List Answer → List Answer
release a [] = a ∷ []
release a (b ∷ bs) = if nat_lt a.tx.seq b.tx.seq then a ∷ b ∷ bs else b ∷ release a bs

-- the local commit timestamp, where there is one
abbrev pub lc_of : Phase → Option ℕ
lc_of Active = None
lc_of (ReadWait k) = None
lc_of (Remote k) = None
lc_of (Reply k v by fc) = None
lc_of CertWait = None
lc_of (Closing wish) = None
lc_of (Local lc) = Some lc
lc_of (Global lc) = Some lc
lc_of (Committed lc fc) = lc
lc_of (Aborted lc cause) = lc

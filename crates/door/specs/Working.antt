-- What a worker of a node does at a door, and what it finds.
use Rattle.answer_board.specs.Entries.{answer_at}
use Rattle.answer_board.specs.declared.entries.Entry.{Entry}
use Rattle.answer_board.specs.declared.entries.Entry.TheVariants.{Did}
use Rattle.door.specs.Acting.{HasDone}
use Rattle.door.specs.Places.{IsPlaceOf}
use Rattle.std.specs.Prelude.{List, Some, slice_get, ℕ, ◌*◌, ◌++◌, ◌+◌, ◌<◌, ◌∷◌, ◌≡◌}
use Rattle.str_base.specs.Members.{In}
use Rattle.str_base.specs.declared.names.NodeId.{NodeId}
use Rattle.str_model.specs.declared.messages.Answer.{Answer}
use Rattle.str_model.specs.declared.names.Done.{Done}
use Rattle.str_scene.specs.Scenes.{Scene, Session, nth}
use Rattle.str_scene.specs.declared.names.Event.{Event}
use Rattle.str_scene.specs.declared.names.Event.TheVariants.{Client, Deliver}
use Rattle.str_scene.specs.declared.names.TxPlace.{TxPlace}

-- ---- acts

-- the delivery of a turn, counted from 0, of the worker of a node
abbrev pub delivery : ℕ → NodeId → ℕ → Event
delivery nodes node turn = Deliver (turn * nodes + node.0)

-- the deliveries of the first turns are in the list
pub record HasDelivers (list : List Entry) (nodes : ℕ) (node : NodeId) (turns : ℕ) : Type 0 where
  pub each : (t : ℕ) → t < turns → HasDone list (delivery nodes node t)

-- a client step of the session, with some reading, is in the list
pub record HasClient (list : List Entry) (session : ℕ) : Type 0 where
  pub reading : ℕ
  pub done : HasDone list (Client (record { 0 = session }) reading)

-- the session is of the node
pub record IsSessionOf (scene : Scene) (node : NodeId) (session : ℕ) : Type 0 where
  pub text : Session
  pub there : nth scene.sessions session ≡ Some text
  pub node_ : text.node ≡ node

-- a client step of each session of the node is in the list
pub record HasClients (list : List Entry) (scene : Scene) (node : NodeId) : Type 0 where
  pub each : (s : ℕ) → IsSessionOf scene node s → HasClient list s

-- ---- what is found

-- the places of the answers are of transactions of the node's sessions
abbrev pub AreOwn : Scene → NodeId → List Answer → Type 0
AreOwn scene node found = (i : ℕ) (a : Answer) → slice_get found i ≡ Some a → IsPlaceOf scene node a.place

-- each answer that stands in the list before the first entry of the event, at a place of the node, was found
pub record FoundBefore (scene : Scene) (node : NodeId) (list : List Entry) (e : Event) (found : List Answer) : Type 0 where
  pub each : (xs ys : List Entry) (d : Done) → list ≡ xs ++ Did d ∷ ys → d.event ≡ e → (HasDone xs e → ⊥)
      → (p : TxPlace) (a : Answer) → IsPlaceOf scene node p → answer_at p xs ≡ Some a → In a found

-- each that stands before the first delivery of the last of 8 turns
abbrev pub AreFound : Scene → NodeId → List Entry → List Answer → Type 0
AreFound scene node list found = FoundBefore scene node list (delivery scene.nodes node 7) found

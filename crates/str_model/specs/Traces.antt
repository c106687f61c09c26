-- The trace of a run: of each event where it was done, on what, its moments and what it sent.
use Rattle.std.specs.Prelude.{List, None, Option, Some, [], slice_get, ℕ, ◌<◌, ◌∷◌, ◌≡◌, ◌⊎◌}
use Rattle.str_scene.specs.declared.names.Event.{Event}
use Rattle.str_scene.specs.declared.names.Event.TheVariants.{Client as ClientEvent, Deliver as DeliverEvent}
use Rattle.str_base.specs.declared.names.NodeId.{NodeId}
use Rattle.str_base.specs.declared.names.SessionId.{SessionId}
use Rattle.str_model.specs.declared.messages.Input.{Input}
use Rattle.str_model.specs.declared.messages.Input.TheVariants.{Client, Deliver}
use Rattle.str_model.specs.declared.messages.Message.{Message}
use Rattle.str_model.specs.Moments.{moments_of}
use Rattle.str_model.specs.Runs.{World, happens, opening}
use Rattle.str_scene.specs.Scenes.{Here, Scene, Session, nth}
use Rattle.str_model.specs.Steps.{step}
use Rattle.str_model.specs.Views.{Doing, View}

-- an event that a node took; no node and no moment where there is no such session or message
pub record Happening : Type 0 where
  pub event : Event
  pub node : Option NodeId
  pub input : Option Input
  pub moments : List Doing
  pub sent : List Message

-- an event that no node takes
abbrev pub nowhere : Event → Happening
nowhere e = record { event = e; node = None; input = None; moments = []; sent = [] }

-- the messages of a step
abbrev pub sent_by : Option Doing → List Message
sent_by None = []
sent_by (Some d) = d.sent

-- an event at this view, where the node exists
abbrev pub seen_at : Scene → Event → NodeId → Input → Option View → Happening
seen_at scene e n input None = nowhere e
seen_at scene e n input (Some view) =
    let here : Here = record { scene = scene; node = n } in
    record { event = e; node = Some n; input = Some input; moments = moments_of here input view; sent = sent_by (step here input view) }

-- a client step
abbrev pub seen_client : Scene → World → Event → SessionId → ℕ → Option Session → Happening
seen_client scene w e s t None = nowhere e
seen_client scene w e s t (Some text) = seen_at scene e text.node (Client s t) (nth w.nodes text.node.0)

-- a delivery
abbrev pub seen_message : Scene → World → Event → Option Message → Happening
seen_message scene w e None = nowhere e
seen_message scene w e (Some m) = seen_at scene e m.receiver (Deliver m) (nth w.nodes m.receiver.0)

-- one event, as it is seen in this state
abbrev pub happening : Scene → World → Event → Happening
happening scene w (ClientEvent s t) = seen_client scene w (ClientEvent s t) s t (nth scene.sessions s.0)
happening scene w (DeliverEvent i) = seen_message scene w (DeliverEvent i) (nth w.sent i)

-- the events one after the other
abbrev pub trace_from : Scene → World → List Event → List Happening
trace_from scene w [] = []
trace_from scene w (e ∷ es) = happening scene w e ∷ trace_from scene (happens scene w e) es

-- the trace of a run, one entry for each event
abbrev pub trace : Scene → List Event → List Happening
trace scene es = trace_from scene (opening scene) es

-- the m-th moment of the j-th event is one of node n
abbrev pub MomentAt : List Happening → ℕ → ℕ → NodeId → Doing → Type 0
MomentAt tr j m n d = (h : Happening) × (slice_get tr j ≡ Some h) × (h.node ≡ Some n) × (slice_get h.moments m ≡ Some d)

-- moment m of event j comes before moment m' of event j'
abbrev pub Earlier : ℕ → ℕ → ℕ → ℕ → Type 0
Earlier j m j' m' = (j < j') ⊎ ((j ≡ j') × (m < m'))

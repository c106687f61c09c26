-- Runs of the whole cluster over any list of events.
use Rattle.std.specs.Prelude.{Bool, List, None, Option, Some, [], false, length, replicate, slice_set, true, ℕ, ◌++◌, ◌-◌, ◌∷◌}
use Rattle.str_model.specs.declared.names.Done.{Done}
use Rattle.str_scene.specs.declared.names.Event.{Event}
use Rattle.str_scene.specs.declared.names.Event.TheVariants.{Client as ClientEvent, Deliver as DeliverEvent}
use Rattle.str_base.specs.declared.names.NodeId.{NodeId}
use Rattle.str_base.specs.declared.names.SessionId.{SessionId}
use Rattle.str_model.specs.declared.messages.Answer.{Answer}
use Rattle.str_model.specs.declared.messages.Input.{Input}
use Rattle.str_model.specs.declared.messages.Input.TheVariants.{Client, Deliver}
use Rattle.str_model.specs.declared.messages.Message.{Message}
use Rattle.str_scene.specs.Scenes.{Scene, Session, nth}
use Rattle.str_model.specs.Steps.{step}
use Rattle.str_model.specs.Views.{Doing, View}

-- all node views, all messages ever sent, which of them were given, the journal and the answers
pub record World : Type 0 where
  pub nodes : List View
  pub sent : List Message
  pub given : List Bool
  pub journal : List Done
  pub answers : List Answer

-- a node at the beginning
abbrev pub opening_view : Scene → View
opening_view scene =
    record { versions = []; marks = replicate (length scene.keys.names) 0; floor = 0; own = []; waiters = []; done = [] }

-- the cluster at the beginning
abbrev pub opening : Scene → World
opening scene =
    record { nodes = replicate scene.nodes (opening_view scene); sent = []; given = []; journal = []; answers = [] }

-- what a step leaves; nothing where it is idle
abbrev pub stepped : Event → ℕ → World → Option Doing → World
stepped e i w None = record w { journal = w.journal ++ record { event = e; idle = true; answers = 0 } ∷ [] }
stepped e i w (Some d) =
    record {
      nodes = slice_set w.nodes i d.view;
      sent = w.sent ++ d.sent;
      given = w.given ++ replicate (length d.sent) false;
      journal = w.journal ++ record { event = e; idle = false; answers = length d.released } ∷ [];
      answers = w.answers ++ d.released;
    }

-- a step at this view, where the node exists
abbrev pub step_at : Scene → Event → NodeId → Input → World → Option View → World
step_at scene e n input w None = stepped e 0 w None
step_at scene e n input w (Some view) = stepped e (n.0 - 1) w (step (record { scene = scene; node = n }) input view)

-- a step at the node
abbrev pub at_node : Scene → Event → NodeId → Input → World → World
at_node scene e n input w = step_at scene e n input w (nth w.nodes n.0)

-- a client step at its session's node
abbrev pub client_event : Scene → Event → SessionId → ℕ → World → Option Session → World
client_event scene e s t w None = stepped e 0 w None
client_event scene e s t w (Some text) = at_node scene e text.node (Client s t) w

-- the i-th message counts as given
abbrev pub give : ℕ → World → World
give i w = record w { given = slice_set w.given (i - 1) true }

-- a delivery to the message's receiver
abbrev pub deliver_event : Scene → Event → ℕ → World → Option Message → World
deliver_event scene e i w None = stepped e 0 w None
deliver_event scene e i w (Some m) = at_node scene e m.receiver (Deliver m) (give i w)

-- one event
unfoldable pub happens : Scene → World → Event → World
happens scene w (ClientEvent s t) = client_event scene (ClientEvent s t) s t w (nth scene.sessions s.0)
happens scene w (DeliverEvent i) = deliver_event scene (DeliverEvent i) i w (nth w.sent i)

-- the events one after the other
abbrev pub run_from : Scene → World → List Event → World
run_from scene w [] = w
run_from scene w (e ∷ es) = run_from scene (happens scene w e) es

-- all events from the opening on
abbrev pub run : Scene → List Event → World
run scene es = run_from scene (opening scene) es

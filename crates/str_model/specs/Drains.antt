-- The drain: the oldest message that was never given, else the client step of the lowest session for which it is not idle.
use Rattle.std.specs.List.{range_with_len}
use Rattle.std.specs.Prelude.{Bool, List, None, Option, Some, [], false, find, if◌then◌else◌, is_some, length, slice_get, suc, true, zero, ℕ, ◌++◌, ◌+◌, ◌∷◌, ◌≡◌}
use Rattle.str_scene.specs.declared.names.Event.{Event}
use Rattle.str_scene.specs.declared.names.Event.TheVariants.{Client as ClientEvent, Deliver as DeliverEvent}
use Rattle.str_base.specs.declared.names.SessionId.{SessionId}
use Rattle.str_model.specs.Clients.{client_rule}
use Rattle.str_model.specs.Runs.{World, happens, run}
use Rattle.str_scene.specs.Scenes.{Here, Scene, Session, nth}
use Rattle.str_model.specs.Views.{View, starts}
use Rattle.str_model.specs.Work.{left}

-- the number of the first that was not given, where the first of the list has the number i
abbrev pub first_missing : ℕ → List Bool → Option ℕ
first_missing i [] = None
first_missing i (true ∷ bs) = first_missing (i + 1) bs
first_missing i (false ∷ bs) = Some i

-- the oldest message that was never given
unfoldable pub next_message : World → Option ℕ
next_message w = first_missing 1 w.given

-- a client step at this view is not idle
abbrev pub view_moves : Here → SessionId → Option View → Bool
view_moves here s None = false
view_moves here s (Some v) = is_some (client_rule here s 0 (starts v))

-- the same at the view of the session's node
abbrev pub session_moves : Scene → List View → SessionId → Option Session → Bool
session_moves scene vs s None = false
session_moves scene vs s (Some text) = view_moves (record { scene = scene; node = text.node }) s (nth vs text.node.0)

-- a client step of the session is not idle
unfoldable pub moves : Scene → World → ℕ → Bool
moves scene w s = session_moves scene w.nodes (record { 0 = s }) (nth scene.sessions s)

-- the lowest session for which a client step is not idle
unfoldable pub next_session : Scene → World → Option ℕ
next_session scene w = find (moves scene w) (range_with_len 1 (length scene.sessions))

-- a client step with reading 0, where there is such a session
abbrev pub client_or_stop : Option ℕ → Option Event
client_or_stop None = None
client_or_stop (Some s) = Some (ClientEvent (record { 0 = s }) 0)

-- the message, else a client step
abbrev pub message_or_client : Scene → World → Option ℕ → Option Event
message_or_client scene w (Some i) = Some (DeliverEvent i)
message_or_client scene w None = client_or_stop (next_session scene w)

-- the drain's next event; none where it stops
unfoldable pub next_event : Scene → World → Option Event
next_event scene w = message_or_client scene w (next_message w)

-- what follows an event, where there is one
abbrev pub and_on : (Event → List Event) → Option Event → List Event
and_on f None = []
and_on f (Some e) = f e

-- the events of the drain, n at most
abbrev pub drain_events : Scene → ℕ → World → List Event
drain_events scene zero w = []
drain_events scene (suc n) w = and_on (λ e. e ∷ drain_events scene n (happens scene w e)) (next_event scene w)

-- the drain's events, where the scene has a drain
abbrev pub drained : Scene → World → List Event
drained scene w = if scene.drain then drain_events scene (left scene w) w else []

-- the schedule, and then the events of the drain
unfoldable pub cluster_events : Scene → List Event
cluster_events scene = scene.schedule ++ drained scene (run scene scene.schedule)

-- the one run of a scene
unfoldable pub cluster_run : Scene → World
cluster_run scene = run scene (cluster_events scene)

-- every message was given
abbrev pub AllGiven : World → Type 0
AllGiven w = (i : ℕ) (b : Bool) → slice_get w.given i ≡ Some b → b ≡ true

-- every message was given and every client step is idle
abbrev pub AtRest : Scene → World → Type 0
AtRest scene w = AllGiven w × ((s : ℕ) → moves scene w s ≡ false)

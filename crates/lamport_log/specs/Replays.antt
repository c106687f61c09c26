-- A log replays: its entries are the steps of its node, one after the other, from the opening view.
use Rattle.std.specs.Prelude.{Bool, List, None, Option, Some, [], false, length, option_map, true, ◌∷◌, ◌≡◌}
use Rattle.lamport_log.specs.Logs.{Item, Log, items, message_of, messages_in, answers_in}
use Rattle.lamport_log.specs.declared.logs.LogInput.{LogInput}
use Rattle.lamport_log.specs.declared.logs.LogInput.TheVariants.{Client as ClientEntry, Taken}
use Rattle.str_base.specs.declared.names.NodeId.{NodeId}
use Rattle.str_model.specs.Runs.{opening_view}
use Rattle.str_model.specs.Steps.{step}
use Rattle.str_model.specs.Views.{Doing, View}
use Rattle.str_model.specs.declared.messages.Answer.{Answer}
use Rattle.str_model.specs.declared.messages.Input.{Input}
use Rattle.str_model.specs.declared.messages.Input.TheVariants.{Client, Deliver}
use Rattle.str_model.specs.declared.messages.Message.{Message}
use Rattle.str_scene.specs.Scenes.{Here, Scene, nth}

-- what a node steps on by an entry; nothing where the message that it names is missing
abbrev pub input_of : List Log → LogInput → Option Input
input_of logs (ClientEntry s t) = Some (Client s t)
input_of logs (Taken n k) = option_map (λ m. Deliver m) (message_of logs n k)

-- what a step at a view came to
pub record Came : Type 0 where
  pub view : View
  pub idle : Bool
  pub sent : List Message
  pub released : List Answer

-- nothing but an idle flag, or what the step did
abbrev pub came : View → Option Doing → Came
came v None = record { view = v; idle = true; sent = []; released = [] }
came v (Some d) = record { view = d.view; idle = false; sent = d.sent; released = d.released }

-- a client step is in no log where it was idle
abbrev pub MayBeIdle : LogInput → Bool → Type 0
MayBeIdle (ClientEntry s t) idle = idle ≡ false
MayBeIdle (Taken n k) idle = Unit {0}

-- the entry says what the step came to
pub record Says (it : Item) (c : Came) : Type 0 where
  pub idle : it.entry.idle ≡ c.idle
  pub moved : MayBeIdle it.entry.input c.idle
  pub sent : it.sent ≡ c.sent
  pub count : it.entry.sent ≡ length c.sent
  pub released : it.released ≡ c.released
  pub answers : it.entry.answers ≡ length c.released

-- from the first view the steps of these entries lead to the last one
abbrev pub StepsLead : Here → List Log → View → List Item → View → Type 0
StepsLead here logs v [] u = v ≡ u
StepsLead here logs v (it ∷ its) u =
    (input : Input) × (input_of logs it.entry.input ≡ Some input) × (Says it (came v (step here input v)))
    × (StepsLead here logs (came v (step here input v)).view its u)

-- the log of a node of the scene replays to the view, and has no message and no answer of no entry
pub record Replays (scene : Scene) (logs : List Log) (log : Log) (view : View) : Type 0 where
  pub steps : StepsLead (record { scene = scene; node = log.node }) logs (opening_view scene) (items log) view
  pub messages : messages_in (items log) ≡ log.messages
  pub released : answers_in (items log) ≡ log.released

-- there is one log for each node of the scene, in order of node
abbrev pub AreLogs : Scene → List Log → Type 0
AreLogs scene logs =
    (length logs ≡ scene.nodes) × ((n : NodeId) (log : Log) → nth logs n.0 ≡ Some log → log.node ≡ n)

-- each log replays, to the view at its place
abbrev pub AllReplay : Scene → List Log → List View → Type 0
AllReplay scene logs views =
    (length views ≡ length logs)
    × ((n : NodeId) (log : Log) (view : View) → nth logs n.0 ≡ Some log → nth views n.0 ≡ Some view → Replays scene logs log view)

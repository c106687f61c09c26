-- Logs are rounds: each is so many pieces, first what is taken, then a client step of each session that can make one.
use Rattle.std.specs.List.{range_with_len}
use Rattle.std.specs.Prelude.{Bool, List, Some, [], false, filter, flat_map, length, map, min, slice_get, take, true, ℕ, ◌++◌, ◌-◌, ◌∷◌, ◌≡◌, ◌≤◌, ◌⊎◌}
use Rattle.lamport_log.specs.Logs.{Item, Log, items, messages_in}
use Rattle.lamport_log.specs.Replays.{StepsLead, came}
use Rattle.lamport_log.specs.declared.logs.LogInput.{LogInput}
use Rattle.lamport_log.specs.declared.logs.LogInput.TheVariants.{Client as ClientEntry, Taken}
use Rattle.str_base.specs.Versions.{same_node}
use Rattle.str_base.specs.declared.names.NodeId.{NodeId}
use Rattle.str_base.specs.declared.names.SessionId.{SessionId}
use Rattle.str_model.specs.Drains.{view_moves}
use Rattle.str_model.specs.Runs.{opening_view}
use Rattle.str_model.specs.Steps.{step}
use Rattle.str_model.specs.Views.{View}
use Rattle.str_model.specs.declared.messages.Input.TheVariants.{Client}
use Rattle.str_model.specs.declared.messages.Message.{Message}
use Rattle.str_scene.specs.Scenes.{Here, Scene, nth}

-- what a node does in a round: it takes messages, then its sessions move
pub record Piece : Type 0 where
  pub taken : List Item
  pub moved : List Item

-- the entries of these rounds
abbrev pub entries_of : List Piece → List Item
entries_of ps = flat_map (λ p. p.taken ++ p.moved) ps

-- the entry takes a message of the node
abbrev pub is_from : NodeId → LogInput → Bool
is_from n (ClientEntry s t) = false
is_from n (Taken m k) = same_node m n

-- the entries that take a message of the node
abbrev pub from_node : NodeId → List Item → List Item
from_node n its = filter (λ it. is_from n it.entry.input) its

-- the messages to the node
abbrev pub to_node : NodeId → List Item → List Message
to_node n its = filter (λ m. same_node m.receiver n) (messages_in its)

-- the nodes of a scene, upwards
abbrev pub nodes_of : Scene → List NodeId
nodes_of scene = map (λ n. record { 0 = n }) (range_with_len 1 scene.nodes)

-- the sessions of a scene, upwards
abbrev pub sessions_of : Scene → List SessionId
sessions_of scene = map (λ s. record { 0 = s }) (range_with_len 1 (length scene.sessions))

-- these are the client steps of these sessions in turn: one of each whose step isn't idle at its turn, and none of another
abbrev pub SessionsMove : Here → View → List SessionId → List Item → Type 0
SessionsMove here v [] its = its ≡ []
SessionsMove here v (s ∷ ss) its =
    ((view_moves here s (Some v) ≡ false) × SessionsMove here v ss its)
    ⊎ ((view_moves here s (Some v) ≡ true) × (it : Item) × (rest : List Item) × (t : ℕ) × (its ≡ it ∷ rest) × (it.entry.input ≡ ClientEntry s t) × (SessionsMove here (came v (step here (Client s t) v)).view ss rest))

-- how many messages to this node the sender sent by its pieces and this node didn't take by its own
abbrev pub waiting : NodeId → List Piece → NodeId → List Piece → ℕ
waiting here mine sender theirs = length (to_node here (entries_of theirs)) - length (from_node sender (entries_of mine))

-- a round of a node: before it the node did the first pieces
pub record IsRound (scene : Scene) (logs : List Log) (pieces : List (List Piece)) (r : ℕ) (here : NodeId) (before : List Piece) (p : Piece) : Type 0 where
  pub upwards : p.taken ≡ flat_map (λ n. from_node n p.taken) (nodes_of scene)
  pub most : (n : NodeId) → length (from_node n p.taken) ≤ 8
  pub least : (n : NodeId) (theirs : List Piece) → nth pieces n.0 ≡ Some theirs
      → min 8 (waiting here before n (take r theirs)) ≤ length (from_node n p.taken)
  pub view : View
  pub reached : StepsLead (record { scene = scene; node = here }) logs (opening_view scene) (entries_of before ++ p.taken) view
  pub clients : SessionsMove (record { scene = scene; node = here }) view (sessions_of scene) p.moved

-- the pieces of a log
pub record AreRounds (scene : Scene) (logs : List Log) (pieces : List (List Piece)) (number : ℕ) (here : NodeId) (log : Log) (ps : List Piece) : Type 0 where
  pub count : length ps ≡ number
  pub whole : entries_of ps ≡ items log
  pub rounds : (r : ℕ) (p : Piece) → slice_get ps r ≡ Some p → IsRound scene logs pieces r here (take r ps) p

-- each log is that many rounds
abbrev pub Rounds : Scene → List Log → ℕ → Type 0
Rounds scene logs count =
    (pieces : List (List Piece)) × (length pieces ≡ length logs)
    × ((here : NodeId) (log : Log) (ps : List Piece) → nth logs here.0 ≡ Some log → nth pieces here.0 ≡ Some ps → AreRounds scene logs pieces count here log ps)

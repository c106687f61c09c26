-- What a race knows of a node, and how its ends move.
use Rattle.std.specs.Prelude.{◌≡◌, ◌≤◌, ◌+◌, ℕ, Bool, List, Some, [], ◌∷◌, length, map}
use Rattle.std.specs.List.{sum_by}
use Rattle.lamport_log.specs.Closed.{sent_under}
use Rattle.lamport_log.specs.Logs.{Log}
use Rattle.lamport_log.specs.declared.logs.LogEntry.{LogEntry}
use Rattle.ring_links.specs.Ends.{Ends, Other, link_to}
use Rattle.ring_links.specs.Flows.{Move, Moves, sent_in, taken_in}
use Rattle.ring_links.specs.declared.link.Link.{Link}
use Rattle.ring_links.specs.declared.parcel.Parcel.{Parcel}
use Rattle.str_base.specs.declared.names.NodeId.{NodeId}
use Rattle.str_model.specs.Views.{View}
use Rattle.str_scene.specs.Scenes.{Here, Scene, nth}

-- a node of a race: its scene, its number and its view, its ends, its log, its stamp, and whether a growth was refused
pub record Seat : Type 0 where
  pub scene : Scene
  pub id : NodeId
  pub view : View
  pub ends : Ends
  pub log : Log
  pub stamp : ℕ
  pub wanting : Bool

-- where the node steps
abbrev pub here_at : Seat → Here
here_at n = record { scene = n.scene; node = n.id }

-- the last of these stamps, where one stood before them
abbrev pub last_stamp : ℕ → List LogEntry → ℕ
last_stamp before [] = before
last_stamp before (e ∷ es) = last_stamp e.stamp es

-- the log and the ends are the node's, there is a link to each other node of the scene, the entries count all messages, and the node exists
pub record IsSeat (n : Seat) : Type 0 where
  pub log_ : n.log.node ≡ n.id
  pub ends_ : n.ends.node ≡ n.id.0
  pub width : length n.ends.links + 1 ≡ n.scene.nodes
  pub counted : sum_by (λ (e : LogEntry). e.sent) n.log.entries ≡ length n.log.messages
  pub number : 1 ≤ n.id.0
  pub most : n.id.0 ≤ n.scene.nodes

-- the numbers of these parcels
abbrev pub numbers : List Parcel → List ℕ
numbers ps = map (λ (p : Parcel). p.number) ps

-- the parcel is the message with its number in the log of its sender, under the stamp of the step that sent it
pub record IsSent (log : Log) (p : Parcel) : Type 0 where
  pub message_ : nth log.messages p.number ≡ Some p.message
  pub stamp_ : sent_under log.entries p.number ≡ Some p.stamp

-- the link to each other node has made these moves
pub record EndsMoved (moves : ℕ → List Move) (e e' : Ends) : Type 0 where
  pub node_ : e'.node ≡ e.node
  pub width : length e'.links ≡ length e.links
  pub links_ : (k : ℕ) (d : Link) → Other e k → Moves (moves k) (link_to e k d) (link_to e' k d)

-- no parcel was sent or taken
pub record Rested (e e' : Ends) : Type 0 where
  pub moves : ℕ → List Move
  pub moved : EndsMoved moves e e'
  pub taken : (k : ℕ) → taken_in (moves k) ≡ []
  pub sent : (k : ℕ) → sent_in (moves k) ≡ []

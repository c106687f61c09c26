-- What contracts see of a node of a race, and of all of them.
use Rattle.std.specs.Prelude.{◌≡◌, ◌≤◌, ◌<◌, ◌+◌, ◌*◌, ◌++◌, ◌^◌, ℕ, true, false, List, [], ◌∷◌, Option, length, map, slice_index_or}
use Rattle.lamport_log.specs.Logs.{IsSameLog, Item}
use Rattle.lamport_log.specs.Rounds.{SessionsMove, is_from}
use Rattle.lamport_log.specs.declared.logs.LogEntry.{LogEntry}
use Rattle.node_core.specs.Working.{here_of}
use Rattle.race_round.specs.Races.{IsRace, StillReplay}
use Rattle.race_round.specs.Seats.{Rested, Seat, here_at}
use Rattle.race_round.specs.Stretches.{IsStopped, Stretch}
use Rattle.race_round.specs.Turns.{Gave, Grouped, IsGroup, Turn, readings_since}
use Rattle.race_round.specs.declared.nodes.RaceNode.{RaceNode}
use Rattle.race_round.specs.declared.takes.Taking.{Taking}
use Rattle.race_round.specs.declared.takes.Taking.TheVariants.{Nothing, Stopped, Taken}
use Rattle.ring_links.specs.Ends.{AllHaveRoom, link_to}
use Rattle.ring_links.specs.Flows.{Move, taken_in}
use Rattle.ring_links.specs.Links.{arrived}
use Rattle.ring_links.specs.declared.link.Link.{Link}
use Rattle.str_base.specs.declared.names.NodeId.{NodeId}
use Rattle.str_base.specs.declared.names.SessionId.{SessionId}
use Rattle.str_model.specs.Steps.{need}
use Rattle.str_model.specs.declared.messages.Input.{Input}
use Rattle.str_scene.specs.Scenes.{Scene}

-- what a race knows of the node
abbrev pub seat_of : {C G : Type 0} → RaceNode C G → Seat
seat_of n =
    record { scene = n.node.scene; id = n.node.id; view = n.node.view; ends = n.ends; log = n.log; stamp = n.stamp; wanting = n.wanting }

-- of all these nodes
abbrev pub seats_of : {C G : Type 0} → List (RaceNode C G) → List Seat
seats_of ns = map (λ n. seat_of n) ns

-- ---- room

-- only room was made, and the clock stays
pub record Roomed {C G : Type 0} (n m : RaceNode C G) : Type 0 where
  pub scene_ : m.node.scene ≡ n.node.scene
  pub id_ : m.node.id ≡ n.node.id
  pub view_ : m.node.view ≡ n.node.view
  pub log_ : IsSameLog n.log m.log
  pub stamp_ : m.stamp ≡ n.stamp
  pub rested : Rested n.ends m.ends
  pub wanting_ : m.wanting ≡ n.wanting
  pub clock_ : m.clock ≡ n.clock

-- there is room for a step on the input, with its entry and its parcels, and the outbox is empty
pub record HasRoom {C G : Type 0} (input : Input) (m : RaceNode C G) : Type 0 where
  pub room : ℕ
  pub need_ : need (here_of m.node) input m.node.view ≤ room
  pub small : room < 2 ^ 32
  pub node_ : room ≤ m.node.room
  pub out_ : room ≤ m.out.space
  pub log_ : room + 1 ≤ m.log.space
  pub ends_ : AllHaveRoom m.ends.links room
  pub messages : m.out.messages ≡ []
  pub answers : m.out.answers ≡ []

-- ---- taking

-- what one try to take came to: nothing was there, or a message of the node was taken and stepped on, or the turn is broken off
abbrev pub TookOne : Taking → NodeId → Seat → Seat → Type 0
TookOne Nothing s n m = (moves : ℕ → List Move) × Stretch true n m [] moves × ((d : Link) → arrived (link_to m.ends s.0 d) ≡ [])
TookOne Taken s n m = (it : Item) × (moves : ℕ → List Move) × Stretch true n m (it ∷ []) moves × (is_from s it.entry.input ≡ true)
TookOne Stopped s n m = (its : List Item) × (moves : ℕ → List Move) × Stretch false n m its moves × (length its ≤ 1) × IsStopped m n.ends moves

-- the turn was broken off after so many steps at most
pub record BrokenOff (most : ℕ) (n m : Seat) : Type 0 where
  pub its : List Item
  pub moves : ℕ → List Move
  pub stretch : Stretch false n m its moves
  pub few : length its ≤ most
  pub stopped : IsStopped m n.ends moves

-- what was taken of one node
pub record TookSome (s : NodeId) (n m : Seat) : Type 0 where
  pub part : List Item
  pub moves : ℕ → List Move
  pub stretch : Stretch true n m part moves
  pub group : IsGroup n s part

-- what was taken of the nodes up to a number
pub record TookUpTo (k : ℕ) (n m : Seat) : Type 0 where
  pub its : List Item
  pub moves : ℕ → List Move
  pub stretch : Stretch true n m its moves
  pub groups : Grouped n k its
  pub few : length its ≤ 8 * k

-- ---- moving

-- some sessions moved: whatever more of them do then follows
pub record Moved (sessions : List SessionId) (n m : Seat) : Type 0 where
  pub its : List Item
  pub moves : ℕ → List Move
  pub stretch : Stretch true n m its moves
  pub few : length its ≤ length sessions
  pub nothing : (k : ℕ) → taken_in (moves k) ≡ []
  pub follows : (more : List SessionId) (rest : List Item) → SessionsMove (here_at n) m.view more rest → SessionsMove (here_at n) n.view (sessions ++ more) (its ++ rest)

-- ---- turns and rounds

-- a node made a turn, and its clock gave the readings of its client steps
pub record Went {C G : Type 0} (given : C → Option (List ℕ)) (n m : RaceNode C G) : Type 0 where
  pub turn : Turn (seat_of n) (seat_of m)
  pub readings : turn.whole ≡ true → Gave (given n.clock) (given m.clock) (readings_since n.log m.log)

-- entries joined the log of a node, and their readings are what its clock gave
pub record ReadingsGiven {C G : Type 0} (given : C → Option (List ℕ)) (n m : RaceNode C G) : Type 0 where
  pub joined : List LogEntry
  pub grown : m.log.entries ≡ n.log.entries ++ joined
  pub gave : Gave (given n.clock) (given m.clock) (readings_since n.log m.log)

-- so of each node
abbrev pub AreReadings : {C G : Type 0} → (C → Option (List ℕ)) → List (RaceNode C G) → List (RaceNode C G) → Type 0
AreReadings given ns ms = (length ms ≡ length ns) × ((i : ℕ) (d : RaceNode _ _) → i < length ns → ReadingsGiven given (slice_index_or ns i d) (slice_index_or ms i d))

-- the nodes are those of a race in which so many rounds are left, of 256
abbrev pub CanGoOn : {C G : Type 0} → ℕ → List (RaceNode C G) → Type 0
CanGoOn count ns = (scene : Scene) × (done : ℕ) × IsRace scene done (seats_of ns) × (done + count ≤ 256)

-- so many rounds more were made of every race that they were
abbrev pub HasGoneOn : {C G : Type 0} → ℕ → List (RaceNode C G) → List (RaceNode C G) → Type 0
HasGoneOn count ns ms = (scene : Scene) (done : ℕ) → IsRace scene done (seats_of ns) → done + count ≤ 256 → IsRace scene (done + count) (seats_of ms)

-- the logs still replay to the nodes and are closed
abbrev pub StillHolds : {C G : Type 0} → ℕ → List (RaceNode C G) → List (RaceNode C G) → Type 0
StillHolds count ns ms = (scene : Scene) (done : ℕ) → IsRace scene done (seats_of ns) → done + count ≤ 256 → StillReplay scene (seats_of ms)

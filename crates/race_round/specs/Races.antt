-- The invariant of a race: what holds of all its nodes after each round.
use Rattle.std.specs.Prelude.{◌≡◌, ◌≢◌, ◌≤◌, ◌+◌, ◌*◌, ℕ, suc, Bool, true, List, Some, [], length, map, slice_get}
use Rattle.lamport_log.specs.Closed.{Closed, sent_to, taken_from}
use Rattle.lamport_log.specs.Logs.{Log}
use Rattle.lamport_log.specs.Replays.{AllReplay, AreLogs}
use Rattle.lamport_log.specs.Rounds.{Rounds}
use Rattle.race_round.specs.Seats.{IsSeat, IsSent, Seat, last_stamp, numbers}
use Rattle.race_round.specs.Turns.{Turn}
use Rattle.ring_links.specs.Ends.{AreEnds, Meet, link_to}
use Rattle.ring_links.specs.Flows.{Flows, under_way}
use Rattle.ring_links.specs.Links.{InOrder, SameLink, Settled, arrived}
use Rattle.ring_links.specs.declared.link.Link.{Link}
use Rattle.ring_links.specs.declared.parcel.Parcel.{Parcel}
use Rattle.str_base.specs.Members.{In}
use Rattle.str_model.specs.Runs.{opening_view}
use Rattle.str_model.specs.Views.{View}
use Rattle.str_model.specs.declared.messages.Message.{Message}
use Rattle.str_scene.specs.SceneLimits.{IsScene}
use Rattle.str_scene.specs.Scenes.{Scene}

-- the logs of these nodes
abbrev pub logs_of : List Seat → List Log
logs_of ns = map (λ (n : Seat). n.log) ns

-- their views
abbrev pub views_of : List Seat → List View
views_of ns = map (λ (n : Seat). n.view) ns

-- ---- two nodes

-- all that a has sent to b: what b took, as its log says, and then what is under way
pub record Reaches (a b : Seat) : Type 0 where
  pub all : List Parcel
  pub taken : List Parcel
  pub flows : (d : Link) → Flows all taken (link_to a.ends b.id.0 d) (link_to b.ends a.id.0 d)
  pub numbers_ : numbers all ≡ sent_to b.id 1 a.log.messages
  pub sent : (p : Parcel) → In p all → IsSent a.log p
  pub took : numbers taken ≡ taken_from a.id b.log.entries

-- the ends meet, and all that a sent to b and b did not take lies in b's inbox
pub record IsPair (a b : Seat) : Type 0 where
  pub meet : Meet a.ends b.ends
  pub reaches : Reaches a b
  pub arrived_ : (d : Link) → under_way (link_to a.ends b.id.0 d) (link_to b.ends a.id.0 d) ≡ arrived (link_to b.ends a.id.0 d)

-- ---- all nodes

-- how many entries a node makes in a round at most
abbrev pub most_entries : Scene → ℕ
most_entries scene = 8 * scene.nodes + length scene.sessions

-- the node at a place, counted from 0, after so many rounds
pub record IsPlaced (scene : Scene) (done place : ℕ) (n : Seat) : Type 0 where
  pub scene_ : n.scene ≡ scene
  pub id_ : n.id ≡ record { 0 = suc place }
  pub seat : IsSeat n
  pub stamp_ : n.stamp ≡ last_stamp 0 n.log.entries
  pub few : length n.log.entries ≤ done * most_entries scene
  pub away : (x : Message) → In x n.log.messages → x.receiver ≢ n.id

-- the nodes of a scene after so many rounds: their logs replay to them, are closed and are these rounds
pub record IsRace (scene : Scene) (done : ℕ) (ns : List Seat) : Type 0 where
  pub limits : IsScene scene
  pub count : length ns ≡ scene.nodes
  pub placed : (i : ℕ) (n : Seat) → slice_get ns i ≡ Some n → IsPlaced scene done i n
  pub pairs : (i j : ℕ) (a b : Seat) → slice_get ns i ≡ Some a → slice_get ns j ≡ Some b → i ≢ j → IsPair a b
  pub replay : AllReplay scene (logs_of ns) (views_of ns)
  pub closed : Closed (logs_of ns)
  pub rounds : Rounds scene (logs_of ns) done

-- the logs of the nodes of a scene replay to them and are closed
pub record StillReplay (scene : Scene) (ns : List Seat) : Type 0 where
  pub are : AreLogs scene (logs_of ns)
  pub replay : AllReplay scene (logs_of ns) (views_of ns)
  pub closed : Closed (logs_of ns)

-- the nodes of a scene at its opening, with ends that no parcel has passed
pub record AreFresh (scene : Scene) (ns : List Seat) : Type 0 where
  pub limits : IsScene scene
  pub scenes : (i : ℕ) (n : Seat) → slice_get ns i ≡ Some n → n.scene ≡ scene
  pub ids : (i : ℕ) (n : Seat) → slice_get ns i ≡ Some n → n.id ≡ record { 0 = suc i }
  pub views : (i : ℕ) (n : Seat) → slice_get ns i ≡ Some n → n.view ≡ opening_view scene
  pub logs : (i : ℕ) (n : Seat) → slice_get ns i ≡ Some n → n.log.node ≡ n.id
  pub entries : (i : ℕ) (n : Seat) → slice_get ns i ≡ Some n → n.log.entries ≡ []
  pub messages : (i : ℕ) (n : Seat) → slice_get ns i ≡ Some n → n.log.messages ≡ []
  pub answers : (i : ℕ) (n : Seat) → slice_get ns i ≡ Some n → n.log.released ≡ []
  pub stamps : (i : ℕ) (n : Seat) → slice_get ns i ≡ Some n → n.stamp ≡ 0
  pub ends_ : AreEnds (map (λ (n : Seat). n.ends) ns) scene.nodes

-- nodes at the opening of a scene are those of a race of no round
abbrev pub RaceBegins : Type 0
RaceBegins = (scene : Scene) (ns : List Seat) → AreFresh scene ns → IsRace scene 0 ns

-- the logs of a race replay to its nodes and are closed
abbrev pub RaceStands : Type 0
RaceStands = (scene : Scene) (done : ℕ) (ns : List Seat) → IsRace scene done ns → StillReplay scene ns

-- ---- a round

-- each node made a turn
pub record Turns (ns ms : List Seat) : Type 0 where
  pub count : length ms ≡ length ns
  pub turn : (i : ℕ) (n m : Seat) → slice_get ns i ≡ Some n → slice_get ms i ≡ Some m → Turn n m

-- all but the ends is as it was
pub record SameSeat (n m : Seat) : Type 0 where
  pub scene_ : m.scene ≡ n.scene
  pub id_ : m.id ≡ n.id
  pub view_ : m.view ≡ n.view
  pub log_ : m.log ≡ n.log
  pub stamp_ : m.stamp ≡ n.stamp
  pub wanting_ : m.wanting ≡ n.wanting
  pub node_ : m.ends.node ≡ n.ends.node
  pub width : length m.ends.links ≡ length n.ends.links

-- from a to b: the order held, the links are of the same rings, and all has arrived where nothing was refused
pub record SettledPair (ok : Bool) (a b a' b' : Seat) : Type 0 where
  pub order : (d : Link) → InOrder (link_to a.ends b.id.0 d) (link_to b.ends a.id.0 d)
  pub same : (d : Link) → SameLink (link_to a.ends b.id.0 d) (link_to a'.ends b.id.0 d)
  pub settled : ok ≡ true → (d : Link) → Settled (link_to a.ends b.id.0 d) (link_to b.ends a.id.0 d) (link_to a'.ends b.id.0 d) (link_to b'.ends a.id.0 d)

-- every two nodes' ends were settled
pub record AllSettled (ok : Bool) (ns ms : List Seat) : Type 0 where
  pub count : length ms ≡ length ns
  pub same : (i : ℕ) (n m : Seat) → slice_get ns i ≡ Some n → slice_get ms i ≡ Some m → SameSeat n m
  pub pairs : (i j : ℕ) (a b a' b' : Seat) → slice_get ns i ≡ Some a → slice_get ns j ≡ Some b → slice_get ms i ≡ Some a' → slice_get ms j ≡ Some b' → i ≢ j → SettledPair ok a b a' b'

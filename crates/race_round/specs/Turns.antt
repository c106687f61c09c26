-- The turn of a node in a round: it takes what others sent, and then each of its sessions that can move does.
use Rattle.std.specs.Prelude.{◌≡◌, ◌≤◌, ◌+◌, ◌*◌, ℕ, zero, suc, Bool, true, false, List, [], ◌++◌, length, min, None, Option, Some}
use Rattle.std.specs.List.{filter_map, range_with_len}
use Rattle.std.specs.Prelude.{drop, map}
use Rattle.lamport_log.specs.Logs.{Item, Log}
use Rattle.lamport_log.specs.Replays.{StepsLead}
use Rattle.lamport_log.specs.Rounds.{SessionsMove, is_from}
use Rattle.lamport_log.specs.declared.logs.LogEntry.{LogEntry}
use Rattle.lamport_log.specs.declared.logs.LogInput.{LogInput}
use Rattle.lamport_log.specs.declared.logs.LogInput.TheVariants.{Client, Taken}
use Rattle.race_round.specs.Seats.{Seat, here_at}
use Rattle.race_round.specs.Stretches.{IsStopped, Known, Stretch}
use Rattle.ring_links.specs.Ends.{Other, link_to}
use Rattle.ring_links.specs.Flows.{Move}
use Rattle.ring_links.specs.Links.{arrived}
use Rattle.ring_links.specs.declared.link.Link.{Link}
use Rattle.str_base.specs.Members.{In}
use Rattle.str_base.specs.declared.names.NodeId.{NodeId}
use Rattle.str_base.specs.declared.names.SessionId.{SessionId}
use Rattle.str_model.specs.Views.{View}

-- ---- what is taken

-- each of these steps is on a message of the node
abbrev pub AllFrom : NodeId → List Item → Type 0
AllFrom s its = (it : Item) → In it its → is_from s it.entry.input ≡ true

-- at most 8 messages of a node were taken, and no fewer than 8 unless no more were in the inbox
pub record IsGroup (n : Seat) (s : NodeId) (part : List Item) : Type 0 where
  pub from : AllFrom s part
  pub most : length part ≤ 8
  pub least : Other n.ends s.0 → (d : Link) → min 8 (length (arrived (link_to n.ends s.0 d))) ≤ length part

-- what was taken of the nodes up to a number, in their order
abbrev pub Grouped : Seat → ℕ → List Item → Type 0
Grouped n zero its = its ≡ []
Grouped n (suc k) its =
    (front : List Item) × (part : List Item) × (its ≡ front ++ part) × Grouped n k front × IsGroup n (record { 0 = suc k }) part

-- ---- what is read of the clock

-- the reading of a client step
abbrev pub reading_of : LogInput → Option ℕ
reading_of (Client s t) = Some t
reading_of (Taken n k) = None

-- the readings of the entries that have joined a log
abbrev pub readings_since : Log → Log → List ℕ
readings_since old new = filter_map (λ (e : LogEntry). reading_of e.input) (drop (length old.entries) new.entries)

-- a clock that tells what it gave has given these numbers since
abbrev pub Gave : Option (List ℕ) → Option (List ℕ) → List ℕ → Type 0
Gave old None numbers = Unit {0}
Gave None (Some new) numbers = ⊥
Gave (Some old) (Some new) numbers = new ≡ old ++ numbers

-- ---- the turn

-- sessions of the scene from the first on
abbrev pub first_sessions : ℕ → List SessionId
first_sessions k = map (λ s. record { 0 = s }) (range_with_len 1 k)

-- a turn that was not broken off: its steps are those of a round
pub record IsPiece (n : Seat) (taken moved : List Item) (moves : ℕ → List Move) : Type 0 where
  pub groups : Grouped n n.scene.nodes taken
  pub view : View
  pub reached : (logs : List Log) → Known logs n.ends moves → StepsLead (here_at n) logs n.view taken view
  pub clients : SessionsMove (here_at n) view (first_sessions (length n.scene.sessions)) moved

-- what a node did in a turn
pub record Turn (n m : Seat) : Type 0 where
  pub whole : Bool
  pub taken : List Item
  pub moved : List Item
  pub moves : ℕ → List Move
  pub stretch : Stretch whole n m (taken ++ moved) moves
  pub few : length taken + length moved ≤ 8 * n.scene.nodes + length n.scene.sessions
  pub stopped : whole ≡ false → IsStopped m n.ends moves
  pub piece : whole ≡ true → IsPiece n taken moved moves

-- A stretch of a turn: the steps that a node made, as entries of its log, and the moves of its links with them.
use Rattle.std.specs.Prelude.{◌≡◌, ◌≢◌, ◌≤◌, ◌+◌, ◌^◌, ◌⊎◌, ℕ, Bool, true, false, List, Some, [], ◌∷◌, ◌++◌, length, map, slice_get}
use Rattle.lamport_log.specs.Closed.{Begins, IsOfOther, Stamped, sent_to, stamp_in, taken_from}
use Rattle.lamport_log.specs.Logs.{IsSameLog, Item, Log, answers_in, message_of, messages_in}
use Rattle.lamport_log.specs.Replays.{StepsLead, came}
use Rattle.lamport_log.specs.declared.logs.LogEntry.{LogEntry}
use Rattle.lamport_log.specs.declared.logs.LogInput.{LogInput}
use Rattle.race_round.specs.Seats.{EndsMoved, IsSeat, IsSent, Rested, Seat, here_at, last_stamp, numbers}
use Rattle.ring_links.specs.Ends.{Ends, Other}
use Rattle.ring_links.specs.Flows.{Move, sent_in, taken_in}
use Rattle.ring_links.specs.declared.parcel.Parcel.{Parcel}
use Rattle.str_base.specs.Members.{In}
use Rattle.str_base.specs.declared.names.NodeId.{NodeId}
use Rattle.str_model.specs.Steps.{step}
use Rattle.str_model.specs.declared.messages.Input.{Input}
use Rattle.str_model.specs.declared.messages.Message.{Message}
use Rattle.str_scene.specs.Scenes.{nth}

-- the entries of these steps
abbrev pub entries_in : List Item → List LogEntry
entries_in its = map (λ (it : Item). it.entry) its

-- ---- sending

-- the parcel is one of these messages, of which `before` were sent earlier, under this stamp
pub record IsLetter (before stamp : ℕ) (messages : List Message) (p : Parcel) : Type 0 where
  pub place : ℕ
  pub there : slice_get messages place ≡ Some p.message
  pub number_ : p.number ≡ before + (place + 1)
  pub stamp_ : p.stamp ≡ stamp

-- these messages were sent to the other nodes that exist, in order, and nothing was taken
pub record SentAll (e e' : Ends) (messages : List Message) (before stamp : ℕ) : Type 0 where
  pub moves : ℕ → List Move
  pub moved : EndsMoved moves e e'
  pub taken : (k : ℕ) → taken_in (moves k) ≡ []
  pub sent : (k : NodeId) → Other e k.0 → numbers (sent_in (moves k.0)) ≡ sent_to k (before + 1) messages
  pub letters : (k : NodeId) (p : Parcel) → Other e k.0 → In p (sent_in (moves k.0)) → IsLetter before stamp messages p

-- ---- a step

-- the item is of the node, counts its messages and answers, and is of no message of the node itself
pub record IsMade (id : NodeId) (it : Item) : Type 0 where
  pub node_ : it.node ≡ id
  pub sent_ : it.entry.sent ≡ length it.sent
  pub answers_ : it.entry.answers ≡ length it.released
  pub other : IsOfOther id it.entry.input

-- the step of the node on an input was made and entered under a stamp, and what it sent was sent
pub record Made (n m : Seat) (input : Input) (logged : LogInput) (stamp : ℕ) (it : Item) : Type 0 where
  pub scene_ : m.scene ≡ n.scene
  pub id_ : m.id ≡ n.id
  pub node_ : it.node ≡ n.id
  pub input_ : it.entry.input ≡ logged
  pub stamp_ : it.entry.stamp ≡ stamp
  pub idle_ : it.entry.idle ≡ (came n.view (step (here_at n) input n.view)).idle
  pub sent_ : it.sent ≡ (came n.view (step (here_at n) input n.view)).sent
  pub released_ : it.released ≡ (came n.view (step (here_at n) input n.view)).released
  pub view_ : m.view ≡ (came n.view (step (here_at n) input n.view)).view
  pub count_ : it.entry.sent ≡ length it.sent
  pub answers_ : it.entry.answers ≡ length it.released
  pub log_ : m.log.node ≡ n.log.node
  pub entries : m.log.entries ≡ n.log.entries ++ it.entry ∷ []
  pub messages : m.log.messages ≡ n.log.messages ++ it.sent
  pub answers : m.log.released ≡ n.log.released ++ it.released
  pub last : m.stamp ≡ stamp
  pub out : SentAll n.ends m.ends it.sent (length n.log.messages) stamp

-- ---- a stretch

-- the logs have what was taken in these moves, at the numbers and under the stamps that the parcels tell
abbrev pub Known : List Log → Ends → (ℕ → List Move) → Type 0
Known logs e moves =
    (k : NodeId) (p : Parcel) → Other e k.0 → In p (taken_in (moves k.0))
    → (message_of logs k p.number ≡ Some p.message) × (stamp_in (nth logs k.0) p.number ≡ Some p.stamp)

-- the numbers of the log are those that were taken; where the turn was broken off, the first of them
abbrev pub Logged : Bool → List ℕ → List ℕ → Type 0
Logged true logged taken = taken ≡ logged
Logged false logged taken = Begins logged taken

-- from n to m the node made these steps, and its links these moves; in a whole stretch nothing that was taken is missing in the log
pub record Stretch (whole : Bool) (n m : Seat) (its : List Item) (moves : ℕ → List Move) : Type 0 where
  pub scene_ : m.scene ≡ n.scene
  pub id_ : m.id ≡ n.id
  pub seat : IsSeat m
  pub entries : m.log.entries ≡ n.log.entries ++ entries_in its
  pub messages : m.log.messages ≡ n.log.messages ++ messages_in its
  pub answers : m.log.released ≡ n.log.released ++ answers_in its
  pub moved : EndsMoved moves n.ends m.ends
  pub last : m.stamp ≡ last_stamp n.stamp (entries_in its)
  pub made : (it : Item) → In it its → IsMade n.id it
  pub steps : (logs : List Log) → Known logs n.ends moves → StepsLead (here_at n) logs n.view its m.view
  pub stamps : (logs : List Log) → Known logs n.ends moves → Stamped logs n.stamp (entries_in its)
  pub took : (k : NodeId) → Other n.ends k.0 → Logged whole (taken_from k (entries_in its)) (numbers (taken_in (moves k.0)))
  pub sent : (k : NodeId) → Other n.ends k.0 → numbers (sent_in (moves k.0)) ≡ sent_to k (length n.log.messages + 1) (messages_in its)
  pub parcels : (k : NodeId) (p : Parcel) → Other n.ends k.0 → In p (sent_in (moves k.0)) → IsSent m.log p
  pub away : whole ≡ true → (x : Message) → In x (messages_in its) → x.receiver ≢ n.id

-- the node stopped since a growth was refused, or since a stamp was the last one
abbrev pub IsStopped : Seat → Ends → (ℕ → List Move) → Type 0
IsStopped m e moves =
    (m.wanting ≡ true) ⊎
    ((2 ^ 62 ≤ m.stamp) ⊎ ((k : NodeId) × (p : Parcel) × Other e k.0 × In p (taken_in (moves k.0)) × (2 ^ 62 ≤ p.stamp)))

-- ---- a step that is tried

-- nothing was done, though there may be more room now
pub record Unmade (n m : Seat) : Type 0 where
  pub scene_ : m.scene ≡ n.scene
  pub id_ : m.id ≡ n.id
  pub view_ : m.view ≡ n.view
  pub log_ : IsSameLog n.log m.log
  pub stamp_ : m.stamp ≡ n.stamp
  pub rested : Rested n.ends m.ends

-- a step was made; or it was not, or sent a message to its own node, which no rule does, and then the node wants
pub data Tried (n m : Seat) (input : Input) (logged : LogInput) (stamp : ℕ) : Bool → Type 0 where
  was_made : (it : Item) → Made n m input logged stamp it → ((x : Message) → In x it.sent → x.receiver ≢ n.id) → Tried n m input logged stamp true
  was_wrong : (it : Item) → Made n m input logged stamp it → m.wanting ≡ true → Tried n m input logged stamp false
  was_unmade : Unmade n m → m.wanting ≡ true → Tried n m input logged stamp false

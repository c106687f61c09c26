-- Logs are closed: what one node took from another is, in order, a prefix of what that other sent it, and stamps rise.
use Rattle.std.specs.List.{filter_map}
use Rattle.std.specs.Prelude.{List, None, Option, Some, [], if◌then◌else◌, max, nat_le, ℕ, ◌++◌, ◌+◌, ◌-◌, ◌∷◌, ◌≡◌, ◌≢◌}
use Rattle.lamport_log.specs.Logs.{Log}
use Rattle.lamport_log.specs.declared.logs.LogEntry.{LogEntry}
use Rattle.lamport_log.specs.declared.logs.LogInput.{LogInput}
use Rattle.lamport_log.specs.declared.logs.LogInput.TheVariants.{Client, Taken}
use Rattle.str_base.specs.Versions.{same_node}
use Rattle.str_base.specs.declared.names.NodeId.{NodeId}
use Rattle.str_model.specs.declared.messages.Message.{Message}
use Rattle.str_scene.specs.Scenes.{nth}

-- the number of a message that was taken from the node
abbrev pub taken_of : NodeId → LogInput → Option ℕ
taken_of n (Client s t) = None
taken_of n (Taken m k) = if same_node m n then Some k else None

-- the numbers of the messages that were taken from the node, in order
abbrev pub taken_from : NodeId → List LogEntry → List ℕ
taken_from n es = filter_map (λ e. taken_of n e.input) es

-- the numbers of the messages for the node, in order, where the first of the list has the number i
abbrev pub sent_to : NodeId → ℕ → List Message → List ℕ
sent_to n i [] = []
sent_to n i (m ∷ ms) = if same_node m.receiver n then i ∷ sent_to n (i + 1) ms else sent_to n (i + 1) ms

-- the one list begins the other
abbrev pub Begins : List ℕ → List ℕ → Type 0
Begins xs ys = (rest : List ℕ) × (xs ++ rest ≡ ys)

-- the stamp of the entry whose step sent the message with a number, counted from 1
abbrev pub sent_under : List LogEntry → ℕ → Option ℕ
sent_under [] k = None
sent_under (e ∷ es) k = if nat_le k e.sent then Some e.stamp else sent_under es (k - e.sent)

-- the same of a node's message
abbrev pub stamp_in : Option Log → ℕ → Option ℕ
stamp_in None k = None
stamp_in (Some l) k = sent_under l.entries k

-- a stamp is one more than the stamp before it; where a message is taken, one more than the greater of the stamp before it and the stamp under which the taken message was sent
abbrev pub IsStamp : List Log → ℕ → LogInput → ℕ → Type 0
IsStamp logs before (Client s t) stamp = stamp ≡ before + 1
IsStamp logs before (Taken n k) stamp = (sent : ℕ) × (stamp_in (nth logs n.0) k ≡ Some sent) × (stamp ≡ max before sent + 1)

-- so are those of these entries, one after the other
abbrev pub Stamped : List Log → ℕ → List LogEntry → Type 0
Stamped logs before [] = Unit {0}
Stamped logs before (e ∷ es) = IsStamp logs before e.input e.stamp × Stamped logs e.stamp es

-- the sender of a taken message is another node
abbrev pub IsOfOther : NodeId → LogInput → Type 0
IsOfOther n (Client s t) = Unit {0}
IsOfOther n (Taken m k) = m ≢ n

-- what is taken is another node's and comes in the order in which it was sent, without a gap and once; the stamps are Lamport's, from 1
pub record Closed (logs : List Log) : Type 0 where
  pub others : (n : NodeId) (log : Log) (i : ℕ) (e : LogEntry) → nth logs n.0 ≡ Some log → nth log.entries i ≡ Some e → IsOfOther n e.input
  pub orders : (n m : NodeId) (log from : Log) → nth logs n.0 ≡ Some log → nth logs m.0 ≡ Some from
      → Begins (taken_from m log.entries) (sent_to n 1 from.messages)
  pub stamps : (n : NodeId) (log : Log) → nth logs n.0 ≡ Some log → Stamped logs 0 log.entries

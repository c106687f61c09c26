-- Logs of nodes as plain lists, and their entries with the messages and answers that are theirs.
use Rattle.std.specs.Prelude.{Bool, List, None, Option, Some, [], drop, flat_map, length, take, ℕ, ◌∷◌, ◌≡◌}
use Rattle.lamport_log.specs.declared.logs.LogEntry.{LogEntry}
use Rattle.lamport_log.specs.declared.logs.LogInput.{LogInput}
use Rattle.str_base.specs.declared.names.NodeId.{NodeId}
use Rattle.str_model.specs.declared.messages.Answer.{Answer}
use Rattle.str_model.specs.declared.messages.Message.{Message}
use Rattle.str_scene.specs.Scenes.{nth}

-- the log of a node: its entries, all messages and answers of its steps, and how many more of each take no memory
pub record Log : Type 0 where
  pub node : NodeId
  pub entries : List LogEntry
  pub messages : List Message
  pub released : List Answer
  pub space : ℕ

-- the entry of a step with these messages and answers
abbrev pub step_entry : ℕ → LogInput → Bool → List Message → List Answer → LogEntry
step_entry stamp input idle sent released = record { stamp = stamp; input = input; idle = idle; sent = length sent; answers = length released }

-- the logs differ in their space alone
pub record IsSameLog (old new : Log) : Type 0 where
  pub node : new.node ≡ old.node
  pub entries : new.entries ≡ old.entries
  pub messages : new.messages ≡ old.messages
  pub released : new.released ≡ old.released

-- an entry with its node, and with the messages and answers of its step
pub record Item : Type 0 where
  pub node : NodeId
  pub entry : LogEntry
  pub sent : List Message
  pub released : List Answer

-- the entries of a node, each with as many of the messages and answers as it counts
abbrev pub cut : NodeId → List LogEntry → List Message → List Answer → List Item
cut n [] ms rs = []
cut n (e ∷ es) ms rs =
    record { node = n; entry = e; sent = take e.sent ms; released = take e.answers rs } ∷ cut n es (drop e.sent ms) (drop e.answers rs)

-- the entries of a log
abbrev pub items : Log → List Item
items l = cut l.node l.entries l.messages l.released

-- all messages of these entries
abbrev pub messages_in : List Item → List Message
messages_in its = flat_map (λ it. it.sent) its

-- all answers of these entries
abbrev pub answers_in : List Item → List Answer
answers_in its = flat_map (λ it. it.released) its

-- the message with a number in a log, where there is such a log
abbrev pub message_in : Option Log → ℕ → Option Message
message_in None k = None
message_in (Some l) k = nth l.messages k

-- the message of a node with a number, counted from 1
abbrev pub message_of : List Log → NodeId → ℕ → Option Message
message_of logs n k = message_in (nth logs n.0) k

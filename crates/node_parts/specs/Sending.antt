-- What contracts see of what a node sends and releases.
use Rattle.std.specs.Prelude.{List, ℕ}
use Rattle.str_model.specs.declared.messages.Answer.{Answer}
use Rattle.str_model.specs.declared.messages.Message.{Message}

-- an outbox: messages and answers in order, and space for so many more of each
pub record OutState : Type 0 where
  pub messages : List Message
  pub answers : List Answer
  pub space : ℕ

-- what goes out: the messages that stood before the step and those that it has sent, the answers that stood before it and those that it has
-- released, and space for so many more of each
pub record Outgoing : Type 0 where
  pub earlier : List Message
  pub sent : List Message
  pub answered : List Answer
  pub released : List Answer
  pub space : ℕ

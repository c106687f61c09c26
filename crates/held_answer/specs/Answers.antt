-- Answers that are held until their transaction is decided.
use Rattle.std.specs.Prelude.{List, Option, [], ◌++◌, ◌∷◌}
use Rattle.str_base.specs.declared.names.Cause.{Cause}
use Rattle.str_base.specs.declared.names.KeyId.{KeyId}
use Rattle.str_base.specs.declared.names.Ts.{Ts}
use Rattle.str_base.specs.declared.names.TxId.{TxId}
use Rattle.str_base.specs.declared.names.Value.{Value}
use Rattle.str_model.specs.declared.messages.Answer.{Answer}
use Rattle.str_model.specs.declared.messages.Outcome.TheVariants.{Aborted, Committed}
use Rattle.str_model.specs.declared.names.Got.{Got}
use Rattle.str_scene.specs.declared.names.TxPlace.{TxPlace}

-- an answer that is held: whose it is, and what its gets gave so far
pub record HeldAnswer : Type 0 where
  pub tx : TxId
  pub place : TxPlace
  pub rs : Ts
  pub gets : List Got

-- an answer without gets
abbrev pub opened : TxId → TxPlace → Ts → HeldAnswer
opened tx place rs = record { tx = tx; place = place; rs = rs; gets = [] }

-- with one more get
abbrev pub noted : KeyId → Value → HeldAnswer → HeldAnswer
noted k v held = record held { gets = held.gets ++ record { key = k; value = v } ∷ [] }

-- the answer where the transaction commits: all gets in order
abbrev pub committed : Option Ts → HeldAnswer → Answer
committed fc held = record { tx = held.tx; place = held.place; rs = held.rs; outcome = Committed fc held.gets }

-- the answer where it aborts
abbrev pub aborted : Cause → HeldAnswer → Answer
aborted cause held = record { tx = held.tx; place = held.place; rs = held.rs; outcome = Aborted cause }

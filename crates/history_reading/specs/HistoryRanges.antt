-- What the answers of a history of a scene may name.
use Rattle.std.specs.Prelude.{List, None, Option, Some, length, ℕ, ⊤, ◌<◌, ◌^◌, ◌≡◌, ◌≤◌}
use Rattle.str_base.specs.declared.names.Cause.{Cause}
use Rattle.str_base.specs.declared.names.Cause.TheVariants.{Conflict, Late, Lost, Wish}
use Rattle.str_base.specs.declared.names.Ts.{Ts}
use Rattle.str_base.specs.declared.names.TxId.{TxId}
use Rattle.str_base.specs.declared.names.Value.{Value}
use Rattle.str_base.specs.declared.names.Value.TheVariants.{Absent, Num, Text}
use Rattle.str_model.specs.declared.messages.Answer.{Answer}
use Rattle.str_model.specs.declared.messages.Outcome.{Outcome}
use Rattle.str_model.specs.declared.messages.Outcome.TheVariants.{Aborted, Committed}
use Rattle.str_model.specs.declared.names.Got.{Got}
use Rattle.str_scene.specs.Lists.{Each}
use Rattle.str_scene.specs.SceneLimits.{Exists, IsKeyOf, IsNumber}
use Rattle.str_scene.specs.Scenes.{KeyTable, Scene, Session, nth}
use Rattle.str_scene.specs.declared.names.TxPlace.{TxPlace}

-- a node of the scene, and a number from 1 to 2^32 - 1
pub record IsNamed (nodes : ℕ) (t : TxId) : Type 0 where
  pub node : Exists t.node.0 nodes
  pub first : 1 ≤ t.seq
  pub last : t.seq < 2 ^ 32

-- a session of the scene, and a transaction of it
pub record IsPlaced (sessions : List Session) (p : TxPlace) : Type 0 where
  pub text : Session
  pub session : nth sessions p.session.0 ≡ Some text
  pub index : Exists p.index (length text.txs)

-- a timestamp below 2^63
abbrev pub IsTime : Ts → Type 0
IsTime t = t.0 < 2 ^ 63

-- the same, where there is one
abbrev pub IsFinal : Option Ts → Type 0
IsFinal None = ⊤
IsFinal (Some fc) = IsTime fc

-- a number of 64 bits, or a byte string of the table
abbrev pub IsValue : KeyTable → Value → Type 0
IsValue table Absent = ⊤
IsValue table (Num n) = IsNumber n
IsValue table (Text t) = t.0 < length table.texts

-- a key of the table, and a value
abbrev pub IsGot : KeyTable → Got → Type 0
IsGot table g = IsKeyOf table g.key × IsValue table g.value

-- transactions, a key and a node of the scene, and a timestamp
abbrev pub IsCause : Scene → Cause → Type 0
IsCause scene (Conflict by k n) = IsNamed scene.nodes by × IsKeyOf scene.keys k × Exists n.0 scene.nodes
IsCause scene (Lost by) = IsNamed scene.nodes by
IsCause scene (Late by fc) = IsNamed scene.nodes by × IsTime fc
IsCause scene Wish = ⊤

-- timestamps, and keys and values of the scene
abbrev pub IsOutcome : Scene → Outcome → Type 0
IsOutcome scene (Committed fc gets) = IsFinal fc × Each (IsGot scene.keys) gets
IsOutcome scene (Aborted cause) = IsCause scene cause

-- the answer names what the scene has
pub record IsOfScene (scene : Scene) (a : Answer) : Type 0 where
  pub tx : IsNamed scene.nodes a.tx
  pub place : IsPlaced scene.sessions a.place
  pub rs : IsTime a.rs
  pub outcome : IsOutcome scene a.outcome

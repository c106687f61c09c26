-- How a made scene is built, item by item. Public clauses cite none of it.
use Rattle.std.specs.Prelude.{List, [], length, map, true, ℕ, ⊤, ◌++◌, ◌∷◌, ◌≡◌, ◌≤◌}
use Rattle.scene_gen.specs.Made.{MadeSession, key_of, numbered, with_pairs}
use Rattle.scene_gen.specs.declared.draws.MadeOp.{MadeOp}
use Rattle.scene_gen.specs.declared.draws.MadeOp.TheVariants.{Add, Get, Put}
use Rattle.str_base.specs.declared.limits.TheConstants.{KEYS, NODE_SESSIONS, SESSIONS, TRANSACTIONS}
use Rattle.str_base.specs.declared.names.NodeId.{NodeId}
use Rattle.str_base.specs.declared.names.PartId.{PartId}
use Rattle.str_scene.specs.declared.names.Event.{Event}
use Rattle.str_scene.specs.declared.names.Op.{Op}
use Rattle.str_scene.specs.Drafts.{may_have_session, may_have_tx, with_session, with_tx}
use Rattle.str_scene.specs.Keys.{with_pair}
use Rattle.str_scene.specs.Lists.{Each}
use Rattle.str_scene.specs.Refusals.{sessions_at, transaction_count}
use Rattle.str_scene.specs.SceneLimits.{IsKey, IsNumber}
use Rattle.str_scene.specs.Scenes.{Scene}

-- operations by the numbers of their keys, each of which the table has, or gets then
abbrev pub numbers : List (List ℕ × PartId) → List MadeOp → List Op
numbers table [] = []
numbers table (op ∷ ops) = numbered table op ∷ numbers (with_pair (key_of op) table) ops

-- a scene so far with a table of keys
abbrev pub with_names : List (List ℕ × PartId) → Scene → Scene
with_names names d = record d { keys = record d.keys { names = names } }

-- with the keys of these operations
abbrev pub with_keys : List MadeOp → Scene → Scene
with_keys ops d = with_names (with_pairs (map key_of ops) d.keys.names) d

-- with one more transaction
abbrev pub with_script : List MadeOp → Scene → Scene
with_script ops d = with_tx (numbers d.keys.names ops) (with_keys ops d)

-- with these transactions
unfoldable pub with_scripts : List (List MadeOp) → Scene → Scene
with_scripts [] d = d
with_scripts (ops ∷ rest) d = with_scripts rest (with_script ops d)

-- with these sessions
unfoldable pub with_sessions : List MadeSession → Scene → Scene
with_sessions [] d = d
with_sessions (s ∷ ss) d = with_sessions ss (with_scripts s.drawn (with_session s.node d))

-- with these entries
abbrev pub with_entries : List Event → Scene → Scene
with_entries es d = record d { schedule = d.schedule ++ es }

-- with these partitions
abbrev pub with_rows : List (List NodeId) → Scene → Scene
with_rows rs d = record d { parts = d.parts ++ rs }

-- the number of an operation has 64 bits
abbrev pub HasNumber : MadeOp → Type 0
HasNumber (Get k) = ⊤
HasNumber (Put k n) = IsNumber n
HasNumber (Add k n) = IsNumber n

-- a transaction of one to three operations, each of a key of six partitions
pub record IsDrawn (ops : List MadeOp) : Type 0 where
  pub some : 1 ≤ length ops
  pub few : length ops ≤ 3
  pub keys : Each (IsKey 6) (map key_of ops)
  pub numbers : Each HasNumber ops

-- a scene so far that is within the limits of its sessions and keys
pub record IsSmall (d : Scene) : Type 0 where
  pub sessions : length d.sessions ≤ SESSIONS
  pub at_one_node : (n : NodeId) → sessions_at n d.sessions ≤ NODE_SESSIONS
  pub transactions : transaction_count d.sessions ≤ TRANSACTIONS
  pub keys : length d.keys.names ≤ KEYS

-- a scene so far in which a session may stand: it has three nodes and six partitions
pub record TakesSessions (d : Scene) : Type 0 where
  pub place : may_have_session d ≡ true
  pub nodes : d.nodes ≡ 3
  pub parts : length d.parts ≡ 6

-- a scene so far in which a transaction may stand: it has six partitions
pub record TakesScripts (d : Scene) : Type 0 where
  pub place : may_have_tx d ≡ true
  pub parts : length d.parts ≡ 6

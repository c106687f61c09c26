-- What stands in a scene stands in one with more nodes, keys, partitions or sessions.
use Rattle.std.proofs.Common.{List, arith, length, ℕ, ◌≡◌, ◌≤◌}
use Rattle.str_base.specs.declared.names.NodeId.{NodeId}
use Rattle.str_base.specs.declared.names.PartId.{PartId}
use Rattle.str_scene.specs.SceneLimits.{Exists, IsEvent, IsKey, IsOp, IsRow, IsScript, IsSession}
use Rattle.str_scene.specs.Scenes.{KeyTable, Scene, Session}
use Rattle.str_scene.specs.declared.names.Event.{Event}
use Rattle.str_scene.specs.declared.names.Event.TheVariants.{Client, Deliver}
use Rattle.str_scene.specs.declared.names.Op.{Op}
use Rattle.str_scene.specs.declared.names.Op.TheVariants.{Abort, Add, Del, Get, Need, Put, Puts}

-- a number up to a greater last one
pub exists_weaker : (n k m : ℕ) → k ≤ m → Exists n k → Exists n m
exists_weaker n k m l h = (h.0, omega (arith, h.1))

-- a row among more nodes
pub row_weaker : (k m : ℕ) → k ≤ m → (row : List NodeId) → IsRow k row → IsRow m row
row_weaker k m l row h = record {
  some = h.some;
  few = h.few;
  exist = λ i n e. exists_weaker n.0 k m l (h.exist i n e);
  distinct = h.distinct;
}

-- a key among more partitions
pub key_weaker : (k m : ℕ) → k ≤ m → (key : List ℕ × PartId) → IsKey k key → IsKey m key
key_weaker k m l key h = record { name = h.name; part = exists_weaker key.1.0 k m l h.part }

-- the table has as many keys and byte strings, or more
pub record IsLonger (s t : KeyTable) : Type 0 where
  pub names : length s.names ≤ length t.names
  pub texts : length s.texts ≤ length t.texts

-- an operation of a longer table
pub op_weaker : (version : ℕ) (s t : KeyTable) → IsLonger s t → (op : Op) → IsOp version s op → IsOp version t op
op_weaker version s t l (Get k) h = omega (arith, h, l.names)
op_weaker version s t l (Put k n) h = (omega (arith, h.0, l.names), h.1)
op_weaker version s t l (Puts k x) h = (omega (arith, h.0, l.names), omega (arith, h.1, l.texts), h.2)
op_weaker version s t l (Add k n) h = (omega (arith, h.0, l.names), h.1)
op_weaker version s t l (Del k) h = omega (arith, h, l.names)
op_weaker version s t l (Need k n) h = (omega (arith, h.0, l.names), h.1)
op_weaker version s t l Abort h = tt

-- a script of a longer table
pub script_weaker : (version : ℕ) (s t : KeyTable) → IsLonger s t → (ops : List Op) → IsScript version s ops → IsScript version t ops
script_weaker version s t l ops h = record {
  some = h.some;
  few = h.few;
  ops = λ i op e. op_weaker version s t l op (h.ops i op e);
}

-- a session of a scene with more nodes and a longer table
pub session_weaker : (d e : Scene) → e.version ≡ d.version → d.nodes ≤ e.nodes → IsLonger d.keys e.keys → (s : Session) → IsSession d s → IsSession e s
session_weaker d e v n l s h = record {
  node = exists_weaker s.node.0 d.nodes e.nodes n h.node;
  scripts = λ j ops p. rw v (script_weaker d.version d.keys e.keys l ops (h.scripts j ops p));
}

-- an entry of a scene with more sessions
pub event_weaker : (d e : Scene) → length d.sessions ≤ length e.sessions → (x : Event) → IsEvent d x → IsEvent e x
event_weaker d e l (Client s t) h = (exists_weaker s.0 (length d.sessions) (length e.sessions) l h.0, h.1)
event_weaker d e l (Deliver i) h = h

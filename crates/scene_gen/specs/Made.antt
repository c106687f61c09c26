-- The made scene of a seed.
use Rattle.std.specs.Prelude.{List, [], flat_map, map, suc, true, zero, ℕ, ◌%◌, ◌+◌, ◌-◌, ◌∷◌}
use Rattle.rand_pcg.specs.Lcg.{Lcg}
use Rattle.scene_gen.specs.Drawn.{after_entry, after_script, entry, generator, script}
use Rattle.scene_gen.specs.declared.draws.MadeKey.{MadeKey}
use Rattle.scene_gen.specs.declared.draws.MadeOp.{MadeOp}
use Rattle.scene_gen.specs.declared.draws.MadeOp.TheVariants.{Add, Get, Put}
use Rattle.str_base.specs.declared.names.KeyId.{KeyId}
use Rattle.str_base.specs.declared.names.NodeId.{NodeId}
use Rattle.str_base.specs.declared.names.PartId.{PartId}
use Rattle.str_scene.specs.declared.names.Event.{Event}
use Rattle.str_scene.specs.declared.names.Op.{Op}
use Rattle.str_scene.specs.declared.names.Op.TheVariants.{Add as OpAdd, Get as OpGet, Put as OpPut}
use Rattle.str_scene.specs.Keys.{place_of, with_pair}
use Rattle.str_scene.specs.Scenes.{Scene, Session}

-- a session: its node, and its transactions by the names of their keys
pub record MadeSession : Type 0 where
  pub node : NodeId
  pub drawn : List (List MadeOp)

-- the next n transactions
unfoldable pub made_scripts : ℕ → Lcg → List (List MadeOp)
made_scripts zero g = []
made_scripts (suc n) g = script g ∷ made_scripts n (after_script g)

-- the generator after them
unfoldable pub after_scripts : ℕ → Lcg → Lcg
after_scripts zero g = g
after_scripts (suc n) g = after_scripts n (after_script g)

-- session s stands at node 1 + (s - 1) mod 3
abbrev pub node_of : ℕ → NodeId
node_of s = record { 0 = 1 + (s - 1) % 3 }

-- the next n sessions, the first of which is session s; each has 25 transactions
unfoldable pub made_sessions : ℕ → ℕ → Lcg → List MadeSession
made_sessions zero s g = []
made_sessions (suc n) s g = record { node = node_of s; drawn = made_scripts 25 g } ∷ made_sessions n (s + 1) (after_scripts 25 g)

-- the generator after them
unfoldable pub after_sessions : ℕ → Lcg → Lcg
after_sessions zero g = g
after_sessions (suc n) g = after_sessions n (after_scripts 25 g)

-- the next n entries of the schedule, the first of which is entry e
unfoldable pub made_entries : ℕ → ℕ → Lcg → List Event
made_entries zero e g = []
made_entries (suc n) e g = entry e g ∷ made_entries n (e + 1) (after_entry g)

-- partition p has the master 1 + (p - 1) mod 3 and one slave, 1 + p mod 3
abbrev pub row_of : ℕ → List NodeId
row_of p = record { 0 = 1 + (p - 1) % 3 } ∷ record { 0 = 1 + p % 3 } ∷ []

-- the n partitions from partition p on
unfoldable pub made_rows : ℕ → ℕ → List (List NodeId)
made_rows zero p = []
made_rows (suc n) p = row_of p ∷ made_rows n (p + 1)

-- the name and the partition of a key: the letter k, and a digit
abbrev pub named : MadeKey → List ℕ × PartId
named k = (107 ∷ k.digit ∷ [], k.part)

-- the key of an operation
abbrev pub key_of : MadeOp → List ℕ × PartId
key_of (Get k) = named k
key_of (Put k n) = named k
key_of (Add k n) = named k

-- the keys of sessions, in order
abbrev pub keys_of : List MadeSession → List (List ℕ × PartId)
keys_of ss = flat_map (λ s. flat_map (map key_of) s.drawn) ss

-- a table with these keys, each at its first appearance
abbrev pub with_pairs : List (List ℕ × PartId) → List (List ℕ × PartId) → List (List ℕ × PartId)
with_pairs [] table = table
with_pairs (k ∷ ks) table = with_pairs ks (with_pair k table)

-- the number of a key: its place in the table
abbrev pub number_in : List (List ℕ × PartId) → MadeKey → KeyId
number_in table k = record { 0 = place_of (named k) table }

-- an operation by the number of its key
abbrev pub numbered : List (List ℕ × PartId) → MadeOp → Op
numbered table (Get k) = OpGet (number_in table k)
numbered table (Put k n) = OpPut (number_in table k) n
numbered table (Add k n) = OpAdd (number_in table k) n

-- a session by the numbers of its keys
abbrev pub session_in : List (List ℕ × PartId) → MadeSession → Session
session_in table s = record { node = s.node; txs = map (map (numbered table)) s.drawn }

-- the scene of these sessions and this schedule: 3 nodes and 6 partitions, with a table of the keys by first appearance, and a drain
abbrev pub scene_of : List MadeSession → List Event → Scene
scene_of ss events =
    let table = with_pairs (keys_of ss) [] in
    record {
      version = 1;
      nodes = 3;
      parts = made_rows 6 1;
      keys = record { names = table; texts = [] };
      sessions = map (session_in table) ss;
      schedule = events;
      drain = true;
    }

-- the made scene of a seed: 12 sessions are drawn, and then 6,000 entries
unfoldable pub made : ℕ → Scene
made seed = scene_of (made_sessions 12 1 (generator seed)) (made_entries 6000 1 (after_sessions 12 (generator seed)))

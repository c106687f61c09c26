-- What the type of a scene that is being built keeps: what a scene keeps, but for the nodes, the first partition and the order of
-- the table, which may be wanting still.
use Rattle.std.specs.List.{count_by, sum_by}
use Rattle.str_base.specs.declared.limits.TheConstants.{KEYS, NODES, NODE_SESSIONS, PARTITIONS, SCHEDULE_ENTRIES, SESSIONS, TRANSACTIONS}
use Rattle.std.specs.Prelude.{List, Some, length, slice_get, ℕ, ⊤, ◌<◌, ◌^◌, ◌≡◌, ◌≤◌, ◌⊎◌}
use Rattle.str_base.specs.Versions.{same_node}
use Rattle.str_base.specs.declared.names.NodeId.{NodeId}
use Rattle.str_base.specs.declared.names.PartId.{PartId}
use Rattle.str_scene.specs.SceneLimits.{IsByteText, IsEvent, IsKey, IsNumber, IsRow, IsSession}
use Rattle.str_scene.specs.Scenes.{Scene, Session}
use Rattle.str_scene.specs.declared.names.Event.{Event}
use Rattle.str_scene.specs.declared.names.Event.TheVariants.{Client, Deliver}
use Rattle.str_scene.specs.declared.names.Op.{Op}
use Rattle.str_scene.specs.declared.names.Op.TheVariants.{Add, Need, Put}

-- the keys and byte strings so far
pub record IsDraftTable (d : Scene) : Type 0 where
  pub keys : (i : ℕ) (key : List ℕ × PartId) → slice_get d.keys.names i ≡ Some key → IsKey (length d.parts) key
  pub distinct_keys : (i j : ℕ) (key : List ℕ × PartId) → slice_get d.keys.names i ≡ Some key → slice_get d.keys.names j ≡ Some key → i ≡ j
  pub few_keys : length d.keys.names ≤ KEYS
  pub texts : (i : ℕ) (text : List ℕ) → slice_get d.keys.texts i ≡ Some text → IsByteText text
  pub distinct_texts : (i j : ℕ) (text : List ℕ) → slice_get d.keys.texts i ≡ Some text → slice_get d.keys.texts j ≡ Some text → i ≡ j
  pub few_texts : length d.keys.texts ≤ KEYS

-- a scene so far
pub record IsDraft (d : Scene) : Type 0 where
  pub version : (d.version ≡ 1) ⊎ (d.version ≡ 2)
  pub nodes : d.nodes ≤ NODES
  pub parts : length d.parts ≤ PARTITIONS
  pub rows : (p : ℕ) (row : List NodeId) → slice_get d.parts p ≡ Some row → IsRow d.nodes row
  pub table : IsDraftTable d
  pub few_sessions : length d.sessions ≤ SESSIONS
  pub sessions : (i : ℕ) (s : Session) → slice_get d.sessions i ≡ Some s → IsSession d s
  pub at_one_node : (n : NodeId) → count_by (λ s. same_node s.node n) d.sessions ≤ NODE_SESSIONS
  pub few_transactions : sum_by (λ s. length s.txs) d.sessions ≤ TRANSACTIONS
  pub few_events : length d.schedule ≤ SCHEDULE_ENTRIES
  pub events : (i : ℕ) (e : Event) → slice_get d.schedule i ≡ Some e → IsEvent d e

-- the number of an operation has 64 bits
abbrev pub HasNumber : Op → Type 0
HasNumber (Put k n) = IsNumber n
HasNumber (Add k n) = IsNumber n
HasNumber (Need k n) = IsNumber n
HasNumber _ = ⊤

-- the numbers of an entry have 64 bits
abbrev pub HasReading : Event → Type 0
HasReading (Client s t) = t < 2 ^ 64
HasReading (Deliver i) = i < 2 ^ 64

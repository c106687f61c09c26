-- What the type of a scene keeps: its limits, and that all that it names exists.
pub use Rattle.partition_map.specs.Maps.{Exists, IsRow}
use Rattle.std.specs.List.{count_by, list_all, sum_by}
use Rattle.str_base.specs.declared.limits.TheConstants.{NODES, NODE_SESSIONS, OPERATIONS, PARTITIONS, SCHEDULE_ENTRIES, SESSIONS, TEXT_BYTES, TRANSACTIONS}
use Rattle.std.specs.Prelude.{Bool, List, None, Option, Some, [], false, flat_map, if◌then◌else◌, length, nat_le, nat_lt, negsuc, pos, slice_get, true, ℕ, ℤ, ⊤, ◌&&◌, ◌+◌, ◌<◌, ◌==◌, ◌^◌, ◌||◌, ◌∷◌, ◌≡◌, ◌≤◌, ◌⊎◌}
use Rattle.str_base.specs.declared.names.KeyId.{KeyId}
use Rattle.str_base.specs.declared.names.NodeId.{NodeId}
use Rattle.str_base.specs.declared.names.PartId.{PartId}
use Rattle.str_scene.specs.declared.names.Event.{Event}
use Rattle.str_scene.specs.declared.names.Event.TheVariants.{Client, Deliver}
use Rattle.str_scene.specs.declared.names.Op.{Op}
use Rattle.str_scene.specs.declared.names.Op.TheVariants.{Abort, Add, Del, Get, Need, Put, Puts}
use Rattle.str_base.specs.Versions.{same_node}
use Rattle.str_scene.specs.Scenes.{KeyTable, Scene, Session}

-- a letter from a to z
abbrev pub is_letter : ℕ → Bool
is_letter c = nat_le 97 c && nat_le c 122

-- a digit
abbrev pub is_digit : ℕ → Bool
is_digit c = nat_le 48 c && nat_le c 57

-- what may stand in a name after its first letter
abbrev pub in_name : ℕ → Bool
in_name c = is_letter c || (is_digit c || (c == 95))

-- a name: a letter, then at most 15 letters, digits or underscores
abbrev pub is_name : List ℕ → Bool
is_name [] = false
is_name (c ∷ cs) = is_letter c && (list_all in_name cs && nat_le (length cs) 15)

-- a name, and a partition of the scene
pub record IsKey (parts : ℕ) (key : List ℕ × PartId) : Type 0 where
  pub name : is_name key.0 ≡ true
  pub part : Exists key.1.0 parts

-- at most 64 bytes
pub record IsByteText (text : List ℕ) : Type 0 where
  pub short : length text ≤ TEXT_BYTES
  pub bytes : list_all (λ b. nat_lt b 256) text ≡ true

-- a number of 64 bits with a sign
abbrev pub IsNumber : ℤ → Type 0
IsNumber (pos n) = n < 2 ^ 63
IsNumber (negsuc n) = n < 2 ^ 63

-- the key is one of the table
abbrev pub IsKeyOf : KeyTable → KeyId → Type 0
IsKeyOf table k = k.0 < length table.names

-- an operation names keys and texts of the table; texts are written in scenes of version 2 alone
abbrev pub IsOp : ℕ → KeyTable → Op → Type 0
IsOp version table (Get k) = IsKeyOf table k
IsOp version table (Put k n) = IsKeyOf table k × IsNumber n
IsOp version table (Puts k t) = IsKeyOf table k × (t.0 < length table.texts) × (version ≡ 2)
IsOp version table (Add k n) = IsKeyOf table k × IsNumber n
IsOp version table (Del k) = IsKeyOf table k
IsOp version table (Need k n) = IsKeyOf table k × IsNumber n
IsOp version table Abort = ⊤

-- 1 to 16 operations
pub record IsScript (version : ℕ) (table : KeyTable) (script : List Op) : Type 0 where
  pub some : 1 ≤ length script
  pub few : length script ≤ OPERATIONS
  pub ops : (i : ℕ) (op : Op) → slice_get script i ≡ Some op → IsOp version table op

-- the session's node exists, and each script is one of the scene
pub record IsSession (scene : Scene) (s : Session) : Type 0 where
  pub node : Exists s.node.0 scene.nodes
  pub scripts : (j : ℕ) (ops : List Op) → slice_get s.txs j ≡ Some ops → IsScript scene.version scene.keys ops

-- the session exists and the reading has 64 bits; a message number is at least 1 and has 64 bits
abbrev pub IsEvent : Scene → Event → Type 0
IsEvent scene (Client s t) = Exists s.0 (length scene.sessions) × (t < 2 ^ 64)
IsEvent scene (Deliver i) = (1 ≤ i) × (i < 2 ^ 64)

-- all operations of all scripts in order
abbrev pub all_ops : Scene → List Op
all_ops scene = flat_map (λ s. flat_map (λ ops. ops) s.txs) scene.sessions

-- the key that an operation names
abbrev pub key_of : Op → List ℕ
key_of (Get k) = k.0 ∷ []
key_of (Put k n) = k.0 ∷ []
key_of (Puts k t) = k.0 ∷ []
key_of (Add k n) = k.0 ∷ []
key_of (Del k) = k.0 ∷ []
key_of (Need k n) = k.0 ∷ []
key_of Abort = []

-- the byte string that an operation names
abbrev pub text_of : Op → List ℕ
text_of (Puts k t) = t.0 ∷ []
text_of _ = []

-- how many numbers have been seen, where n were seen before: each is below the count of those before it, or it is that count
-- and is new; none where the numbers do not first appear in the order 0, 1, 2 and so on
abbrev pub counted : ℕ → List ℕ → Option ℕ
counted n [] = Some n
counted n (m ∷ ms) = if nat_lt m n then counted n ms else (if m == n then counted (n + 1) ms else None)

-- the table is the one that the scripts give
pub record IsTable (scene : Scene) : Type 0 where
  pub keys : (i : ℕ) (key : List ℕ × PartId) → slice_get scene.keys.names i ≡ Some key → IsKey (length scene.parts) key
  pub distinct_keys : (i j : ℕ) (key : List ℕ × PartId) → slice_get scene.keys.names i ≡ Some key → slice_get scene.keys.names j ≡ Some key → i ≡ j
  pub texts : (i : ℕ) (text : List ℕ) → slice_get scene.keys.texts i ≡ Some text → IsByteText text
  pub distinct_texts : (i j : ℕ) (text : List ℕ) → slice_get scene.keys.texts i ≡ Some text → slice_get scene.keys.texts j ≡ Some text → i ≡ j
  pub key_order : counted 0 (flat_map key_of (all_ops scene)) ≡ Some (length scene.keys.names)
  pub text_order : counted 0 (flat_map text_of (all_ops scene)) ≡ Some (length scene.keys.texts)

-- what the type of a scene keeps
pub record IsScene (scene : Scene) : Type 0 where
  pub version : (scene.version ≡ 1) ⊎ (scene.version ≡ 2)
  pub nodes : Exists scene.nodes NODES
  pub parts : Exists (length scene.parts) PARTITIONS
  pub rows : (p : ℕ) (row : List NodeId) → slice_get scene.parts p ≡ Some row → IsRow scene.nodes row
  pub table : IsTable scene
  pub few_sessions : length scene.sessions ≤ SESSIONS
  pub sessions : (i : ℕ) (s : Session) → slice_get scene.sessions i ≡ Some s → IsSession scene s
  pub at_one_node : (n : NodeId) → count_by (λ s. same_node s.node n) scene.sessions ≤ NODE_SESSIONS
  pub few_transactions : sum_by (λ s. length s.txs) scene.sessions ≤ TRANSACTIONS
  pub few_events : length scene.schedule ≤ SCHEDULE_ENTRIES
  pub events : (i : ℕ) (e : Event) → slice_get scene.schedule i ≡ Some e → IsEvent scene e

-- The spelling of a scene: its text, line by line.
use Rattle.std.specs.Fmt.{signed_decimal}
use Rattle.std.specs.Prelude.{Bool, List, None, Option, Some, [], codes, decimal, false, flat_map, if◌then◌else◌, map, nat_lt, slice_get, true, ℕ, ◌%◌, ◌++◌, ◌+◌, ◌/◌, ◌∷◌, ◌≡◌}
use Rattle.str_base.specs.declared.names.KeyId.{KeyId}
use Rattle.str_base.specs.declared.names.NodeId.{NodeId}
use Rattle.str_base.specs.declared.names.PartId.{PartId}
use Rattle.str_scene.specs.declared.names.Event.{Event}
use Rattle.str_scene.specs.declared.names.Event.TheVariants.{Client, Deliver}
use Rattle.str_scene.specs.declared.names.Op.{Op}
use Rattle.str_scene.specs.declared.names.Op.TheVariants.{Abort, Add, Del, Get, Need, Put, Puts}
use Rattle.str_scene.specs.Scenes.{KeyTable, Scene, Session}

-- a digit from 0 to 15
abbrev pub hex_digit : ℕ → ℕ
hex_digit n = if nat_lt n 10 then 48 + n else 87 + n

-- two digits for a byte
abbrev pub hex_byte : ℕ → List ℕ
hex_byte b = hex_digit (b / 16) ∷ hex_digit (b % 16) ∷ []

-- a byte string as text: x, then two digits for each byte
abbrev pub text_spelled : Option (List ℕ) → List ℕ
text_spelled None = []
text_spelled (Some bytes) = codes "x" ++ flat_map hex_byte bytes

-- a name, @ and a partition
abbrev pub name_spelled : Option (List ℕ × PartId) → List ℕ
name_spelled None = []
name_spelled (Some k) = k.0 ++ codes "@" ++ decimal k.1.0

-- a key as text
abbrev pub key_spelled : KeyTable → KeyId → List ℕ
key_spelled keys k = name_spelled (slice_get keys.names k.0)

-- the line of an operation
abbrev pub op_spelled : KeyTable → Op → List ℕ
op_spelled keys (Get k) = codes "get " ++ key_spelled keys k
op_spelled keys (Put k n) = codes "put " ++ key_spelled keys k ++ codes " " ++ signed_decimal n
op_spelled keys (Puts k t) = codes "puts " ++ key_spelled keys k ++ codes " " ++ text_spelled (slice_get keys.texts t.0)
op_spelled keys (Add k n) = codes "add " ++ key_spelled keys k ++ codes " " ++ signed_decimal n
op_spelled keys (Del k) = codes "del " ++ key_spelled keys k
op_spelled keys (Need k n) = codes "need " ++ key_spelled keys k ++ codes " " ++ signed_decimal n
op_spelled keys Abort = codes "abort"

-- an event as it stands in a schedule
abbrev pub event_spelled : Event → List ℕ
event_spelled (Client s t) = codes "c " ++ decimal s.0 ++ codes " " ++ decimal t
event_spelled (Deliver i) = codes "d " ++ decimal i

-- the line of a partition: its number, and each replica in turn
abbrev pub part_spelled : ℕ → List NodeId → List ℕ
part_spelled p row = codes "part " ++ decimal p ++ flat_map (λ r. codes " " ++ decimal r.0) row

-- the lines of these partitions, the first of which has the number p
abbrev pub part_lines : ℕ → List (List NodeId) → List (List ℕ)
part_lines p [] = []
part_lines p (row ∷ rows) = part_spelled p row ∷ part_lines (p + 1) rows

-- the lines of a transaction
abbrev pub tx_lines : KeyTable → List Op → List (List ℕ)
tx_lines keys ops = codes "tx" ∷ map (op_spelled keys) ops

-- the lines of a session
abbrev pub session_lines : KeyTable → Session → List (List ℕ)
session_lines keys s = (codes "session " ++ decimal s.node.0) ∷ flat_map (tx_lines keys) s.txs

-- the line of a drain, where there is one
abbrev pub drain_lines : Bool → List (List ℕ)
drain_lines true = codes "drain" ∷ []
drain_lines false = []

-- the lines before the sessions
abbrev pub head_lines : Scene → List (List ℕ)
head_lines scene =
    (codes "str " ++ decimal scene.version) ∷ (codes "nodes " ++ decimal scene.nodes) ∷ part_lines 1 scene.parts

-- the lines after the sessions
abbrev pub tail_lines : Scene → List (List ℕ)
tail_lines scene = codes "schedule" ∷ (map event_spelled scene.schedule ++ (drain_lines scene.drain ++ codes "end" ∷ []))

-- the lines of a scene, without their line feeds
abbrev pub scene_lines : Scene → List (List ℕ)
scene_lines scene = head_lines scene ++ (flat_map (session_lines scene.keys) scene.sessions ++ tail_lines scene)

-- a line with its line feed
abbrev pub ended : List ℕ → List ℕ
ended line = line ++ 10 ∷ []

-- the text of a scene
unfoldable pub spelling : Scene → List ℕ
spelling scene = flat_map ended (scene_lines scene)

-- the bytes are the text of the scene
abbrev pub IsText : List ℕ → Scene → Type 0
IsText bytes scene = bytes ≡ spelling scene

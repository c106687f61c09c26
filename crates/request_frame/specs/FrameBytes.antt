-- How a frame is spelled: a byte of kind, two bytes of length, and so many bytes. Numbers are written with their highest byte first.
use Rattle.std.specs.Int.{cast_unsigned, to_be_bytes, w64}
use Rattle.std.specs.Prelude.{List, [], codes, flat_map, length, map, ℕ, ℤ, ⊤, ◌%◌, ◌++◌, ◌/◌, ◌<◌, ◌^◌, ◌∷◌, ◌≡◌, ◌≤◌, ◌⊎◌, true}
use Rattle.request_frame.specs.Frames.{Frame}
use Rattle.request_frame.specs.Frames.Frame.{Client, Deliver, Drain, End, Nodes, Part, Session_, Tx, Version}
use Rattle.scene_text.specs.LineTexts.{AreBytes}
use Rattle.scene_text.specs.declared.lines.Line.{Line}
use Rattle.scene_text.specs.declared.lines.Line.TheVariants.{Abort as LAbort, Add as LAdd, Del as LDel, Get as LGet, Need as LNeed, Put as LPut, Puts as LPuts}
use Rattle.str_base.specs.declared.names.NodeId.{NodeId}
use Rattle.str_base.specs.declared.names.PartId.{PartId}
use Rattle.str_scene.specs.Lists.{Each}
use Rattle.str_scene.specs.SceneLimits.{IsNumber, is_name}

-- a number of 64 bits
abbrev pub number_bytes : ℕ → List ℕ
number_bytes n = to_be_bytes w64 n

-- a number of 64 bits with a sign, in two's complement
abbrev pub value_bytes : ℤ → List ℕ
value_bytes n = number_bytes (cast_unsigned w64 n)

-- a key: its partition, the length of its name, and the name
abbrev pub key_bytes : List ℕ → PartId → List ℕ
key_bytes name p = p.0 ∷ length name ∷ name

-- a byte string: its length and its bytes
abbrev pub string_bytes : List ℕ → List ℕ
string_bytes bytes = length bytes ∷ bytes

-- an operation: its code, and what it names
abbrev pub op_bytes : Line → List ℕ
op_bytes (LGet name p) = 1 ∷ key_bytes name p
op_bytes (LPut name p n) = 2 ∷ (key_bytes name p ++ value_bytes n)
op_bytes (LAdd name p n) = 3 ∷ (key_bytes name p ++ value_bytes n)
op_bytes (LDel name p) = 4 ∷ key_bytes name p
op_bytes (LNeed name p n) = 5 ∷ (key_bytes name p ++ value_bytes n)
op_bytes LAbort = 6 ∷ []
op_bytes (LPuts name p bytes) = 7 ∷ (key_bytes name p ++ string_bytes bytes)
op_bytes _ = []

-- the operations of a transaction
abbrev pub script_bytes : List Line → List ℕ
script_bytes ops = flat_map op_bytes ops

-- a kind, the length of the payload, and the payload
abbrev pub sized : ℕ → List ℕ → List ℕ
sized kind payload = kind ∷ length payload / 256 ∷ length payload % 256 ∷ payload

-- the replicas of a partition, a byte for each
abbrev pub row_bytes : List NodeId → List ℕ
row_bytes row = map (λ r. r.0) row

-- a frame
abbrev pub frame_bytes : Frame → List ℕ
frame_bytes (Version v) = codes "STRF" ++ v ∷ []
frame_bytes (Nodes n) = sized 1 (n ∷ [])
frame_bytes (Part row) = sized 2 (row_bytes row)
frame_bytes (Session_ n) = sized 3 (n.0 ∷ [])
frame_bytes (Tx ops) = sized 4 (script_bytes ops)
frame_bytes (Client s t) = sized 5 (s.0 ∷ number_bytes t)
frame_bytes (Deliver i) = sized 6 (number_bytes i)
frame_bytes Drain = sized 7 []
frame_bytes End = sized 8 []

-- the line is an operation's and of the form: a name that is one, a number of 64 bits, bytes that are bytes
abbrev pub IsOpForm : Line → Type 0
IsOpForm (LGet name p) = is_name name ≡ true
IsOpForm (LPut name p n) = (is_name name ≡ true) × IsNumber n
IsOpForm (LAdd name p n) = (is_name name ≡ true) × IsNumber n
IsOpForm (LDel name p) = is_name name ≡ true
IsOpForm (LNeed name p n) = (is_name name ≡ true) × IsNumber n
IsOpForm LAbort = ⊤
IsOpForm (LPuts name p bytes) = (is_name name ≡ true) × AreBytes bytes
IsOpForm _ = ⊥

-- the frame is of the form: a known version, a replica or an operation at least, operations of the form, numbers of 64 bits
abbrev pub IsForm : Frame → Type 0
IsForm (Version v) = (v ≡ 1) ⊎ (v ≡ 2)
IsForm (Part row) = 1 ≤ length row
IsForm (Tx ops) = (1 ≤ length ops) × Each IsOpForm ops
IsForm (Client s t) = t < 2 ^ 64
IsForm (Deliver i) = i < 2 ^ 64
IsForm _ = ⊤

-- How a line of a scene's text is spelled. A line stands here with any numbers, however great: its type in the code bounds them.
use Rattle.std.specs.List.{list_all}
use Rattle.str_base.specs.declared.limits.TheConstants.{REPLICAS, TEXT_BYTES}
use Rattle.std.specs.Prelude.{List, codes, flat_map, length, nat_lt, true, ℕ, ⊤, ◌++◌, ◌^◌, ◌<◌, ◌≡◌, ◌≤◌, ◌⊎◌}
use Rattle.scene_text.specs.declared.lines.Line.{Line}
use Rattle.scene_text.specs.declared.lines.Line.TheVariants.{Abort, Add, Client, Del, Deliver, Drain, End, Get, Need, Nodes, Part, Put, Puts, Schedule, Session, Tx, Version}
use Rattle.scene_text.specs.Numerals.{numeral, signed_numeral}
use Rattle.str_base.specs.declared.names.PartId.{PartId}
use Rattle.str_scene.specs.SceneLimits.{IsNumber, is_name}
use Rattle.str_scene.specs.Spelling.{hex_byte}

-- a key as text: its name, @ and its partition
abbrev pub key_text : List ℕ → PartId → List ℕ
key_text name p = name ++ codes "@" ++ numeral p.0

-- a byte string as text: x, then two digits for each byte
abbrev pub bytes_text : List ℕ → List ℕ
bytes_text bytes = codes "x" ++ flat_map hex_byte bytes

-- a line, without its line feed
abbrev pub line_text : Line → List ℕ
line_text (Version v) = codes "str " ++ numeral v
line_text (Nodes n) = codes "nodes " ++ numeral n
line_text (Part p row) = codes "part " ++ numeral p.0 ++ flat_map (λ r. codes " " ++ numeral r.0) row
line_text (Session n) = codes "session " ++ numeral n.0
line_text Tx = codes "tx"
line_text (Get name p) = codes "get " ++ key_text name p
line_text (Put name p n) = codes "put " ++ key_text name p ++ codes " " ++ signed_numeral n
line_text (Puts name p bytes) = codes "puts " ++ key_text name p ++ codes " " ++ bytes_text bytes
line_text (Add name p n) = codes "add " ++ key_text name p ++ codes " " ++ signed_numeral n
line_text (Del name p) = codes "del " ++ key_text name p
line_text (Need name p n) = codes "need " ++ key_text name p ++ codes " " ++ signed_numeral n
line_text Abort = codes "abort"
line_text Schedule = codes "schedule"
line_text (Client s t) = codes "c " ++ numeral s.0 ++ codes " " ++ numeral t
line_text (Deliver i) = codes "d " ++ numeral i
line_text Drain = codes "drain"
line_text End = codes "end"

-- the bytes are bytes
abbrev pub AreBytes : List ℕ → Type 0
AreBytes bytes = list_all (λ b. nat_lt b 256) bytes ≡ true

-- the line is of the form, whatever its numbers are: a known version, one replica at least, and names that are names
abbrev pub IsForm : Line → Type 0
IsForm (Version v) = (v ≡ 1) ⊎ (v ≡ 2)
IsForm (Part p row) = 1 ≤ length row
IsForm (Get name p) = is_name name ≡ true
IsForm (Put name p n) = is_name name ≡ true
IsForm (Puts name p bytes) = (is_name name ≡ true) × AreBytes bytes
IsForm (Add name p n) = is_name name ≡ true
IsForm (Del name p) = is_name name ≡ true
IsForm (Need name p n) = is_name name ≡ true
IsForm _ = ⊤

-- the numbers of the line fit the types in which they are kept
abbrev pub Fits : Line → Type 0
Fits (Nodes n) = n < 256
Fits (Part p row) = (p.0 < 256) × (length row ≤ REPLICAS) × (list_all (λ r. nat_lt r.0 256) row ≡ true)
Fits (Session n) = n.0 < 256
Fits (Get name p) = p.0 < 256
Fits (Put name p n) = (p.0 < 256) × IsNumber n
Fits (Puts name p bytes) = (p.0 < 256) × (length bytes ≤ TEXT_BYTES)
Fits (Add name p n) = (p.0 < 256) × IsNumber n
Fits (Del name p) = p.0 < 256
Fits (Need name p n) = (p.0 < 256) × IsNumber n
Fits (Client s t) = (s.0 < 256) × (t < 2 ^ 64)
Fits (Deliver i) = i < 2 ^ 64
Fits _ = ⊤

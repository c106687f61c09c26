-- What is read of the parts of a line: what they spell, and what of it fits its type.
use Rattle.std.specs.List.{list_all}
use Rattle.str_base.specs.declared.limits.TheConstants.{REPLICAS, TEXT_BYTES}
use Rattle.std.specs.Prelude.{Bool, List, None, Option, Some, codes, false, flat_map, length, nat_lt, not, true, ℕ, ℤ, ◌++◌, ◌<◌, ◌==◌, ◌∷◌, ◌≡◌, ◌≤◌}
use Rattle.std.specs.Option.{SomeIff}
use Rattle.scene_text.specs.LineTexts.{AreBytes, Fits, IsForm, bytes_text, key_text, line_text}
use Rattle.scene_text.specs.Numerals.{numeral, signed_numeral}
use Rattle.scene_text.specs.declared.lines.Line.{Line}
use Rattle.scene_text.specs.declared.lines.Line.TheVariants.{Abort, Add, Client, Del, Deliver, Drain, End, Get, Need, Nodes, Part, Put, Puts, Schedule, Session, Tx, Version}
use Rattle.scene_text.specs.declared.lines.ReadLine.{ReadLine}
use Rattle.scene_text.specs.declared.lines.Word.{Word}
use Rattle.scene_text.specs.declared.lines.Word.TheVariants.{Abort as WAbort, Add as WAdd, Client as WClient, Del as WDel, Deliver as WDeliver, Drain as WDrain, End as WEnd, Get as WGet, Need as WNeed, Nodes as WNodes, Part as WPart, Put as WPut, Puts as WPuts, Schedule as WSchedule, Session as WSession, Tx as WTx, Version as WVersion}
use Rattle.str_base.specs.declared.names.NodeId.{NodeId}
use Rattle.str_base.specs.declared.names.PartId.{PartId}
use Rattle.str_scene.specs.SceneLimits.{IsNumber, is_name}

-- no byte of the bytes is this one
abbrev pub is_without : ℕ → List ℕ → Bool
is_without c bytes = list_all (λ b. not (b == c)) bytes

-- the text spells a number, and what is kept of it is the number itself where it is below the limit
pub record Spells (limit : ℕ) (text : List ℕ) (kept : Option ℕ) : Type 0 where
  pub number : ℕ
  pub text_is : text ≡ numeral number
  pub kept_is : SomeIff kept (number < limit) number

-- the text spells no number
abbrev pub SpellsNone : List ℕ → Type 0
SpellsNone text = (n : ℕ) → ¬ (text ≡ numeral n)

-- the text spells a signed number, and what is kept of it is the number itself where it has 64 bits
pub record SpellsSigned (text : List ℕ) (kept : Option ℤ) : Type 0 where
  pub number : ℤ
  pub text_is : text ≡ signed_numeral number
  pub kept_is : SomeIff kept (IsNumber number) number

-- the text spells no signed number
abbrev pub SpellsNoSigned : List ℕ → Type 0
SpellsNoSigned text = (z : ℤ) → ¬ (text ≡ signed_numeral z)

-- the text spells a key of this name, and what is kept of its partition is the partition itself where it is below 256
pub record SpellsKey (text name : List ℕ) (kept : Option PartId) : Type 0 where
  pub part : PartId
  pub named : is_name name ≡ true
  pub text_is : text ≡ key_text name part
  pub kept_is : SomeIff kept (part.0 < 256) part

-- the text spells no key
abbrev pub SpellsNoKey : List ℕ → Type 0
SpellsNoKey text = (name : List ℕ) (p : PartId) → is_name name ≡ true → ¬ (text ≡ key_text name p)

-- the text spells a key of this name and a signed number, and what is kept of them are the partition and the number themselves
-- where they fit
pub record SpellsKeyNumber (text name : List ℕ) (kept : Option (PartId × ℤ)) : Type 0 where
  pub part : PartId
  pub number : ℤ
  pub named : is_name name ≡ true
  pub text_is : text ≡ key_text name part ++ 32 ∷ signed_numeral number
  pub kept_is : SomeIff kept ((part.0 < 256) × IsNumber number) (part, number)

-- the text spells no key and number
abbrev pub SpellsNoKeyNumber : List ℕ → Type 0
SpellsNoKeyNumber text =
    (name : List ℕ) (p : PartId) (z : ℤ) → is_name name ≡ true → ¬ (text ≡ key_text name p ++ 32 ∷ signed_numeral z)

-- the text spells a byte string, and what is kept of it is the string itself where it has at most 64 bytes
pub record SpellsBytes (text : List ℕ) (kept : Option (List ℕ)) : Type 0 where
  pub bytes : List ℕ
  pub are_bytes : AreBytes bytes
  pub text_is : text ≡ bytes_text bytes
  pub kept_is : SomeIff kept (length bytes ≤ TEXT_BYTES) bytes

-- the text spells no byte string
abbrev pub SpellsNoBytes : List ℕ → Type 0
SpellsNoBytes text = (bytes : List ℕ) → AreBytes bytes → ¬ (text ≡ bytes_text bytes)

-- replicas, each after a space
abbrev pub row_text : List NodeId → List ℕ
row_text row = flat_map (λ r. codes " " ++ numeral r.0) row

-- at most 8 replicas, each below 256
abbrev pub RowFits : List NodeId → Type 0
RowFits row = (length row ≤ REPLICAS) × (list_all (λ r. nat_lt r.0 256) row ≡ true)

-- the text spells replicas, and what is kept of them are the replicas themselves where they fit
pub record SpellsRow (text : List ℕ) (kept : Option (List NodeId)) : Type 0 where
  pub row : List NodeId
  pub some : 1 ≤ length row
  pub text_is : 32 ∷ text ≡ row_text row
  pub kept_is : SomeIff kept (RowFits row) row

-- the text spells no replicas
abbrev pub SpellsNoRow : List ℕ → Type 0
SpellsNoRow text = (row : List NodeId) → 1 ≤ length row → ¬ (32 ∷ text ≡ row_text row)

-- the kind of a line
abbrev pub word_of : Line → Word
word_of (Version v) = WVersion
word_of (Nodes n) = WNodes
word_of (Part p row) = WPart
word_of (Session n) = WSession
word_of Tx = WTx
word_of (Get name p) = WGet
word_of (Put name p n) = WPut
word_of (Puts name p bytes) = WPuts
word_of (Add name p n) = WAdd
word_of (Del name p) = WDel
word_of (Need name p n) = WNeed
word_of Abort = WAbort
word_of Schedule = WSchedule
word_of (Client s t) = WClient
word_of (Deliver i) = WDeliver
word_of Drain = WDrain
word_of End = WEnd

-- the line is an operation's
abbrev pub is_operation : Word → Bool
is_operation WGet = true
is_operation WPut = true
is_operation WPuts = true
is_operation WAdd = true
is_operation WDel = true
is_operation WNeed = true
is_operation WAbort = true
is_operation _ = false

-- the first word of a line of the kind
abbrev pub word_text : Word → List ℕ
word_text WVersion = codes "str"
word_text WNodes = codes "nodes"
word_text WPart = codes "part"
word_text WSession = codes "session"
word_text WTx = codes "tx"
word_text WGet = codes "get"
word_text WPut = codes "put"
word_text WPuts = codes "puts"
word_text WAdd = codes "add"
word_text WDel = codes "del"
word_text WNeed = codes "need"
word_text WAbort = codes "abort"
word_text WSchedule = codes "schedule"
word_text WClient = codes "c"
word_text WDeliver = codes "d"
word_text WDrain = codes "drain"
word_text WEnd = codes "end"

-- what follows the first word of a line and a space; none where the line is one word
abbrev pub arguments : Line → Option (List ℕ)
arguments (Version v) = Some (numeral v)
arguments (Nodes n) = Some (numeral n)
arguments (Part p row) = Some (numeral p.0 ++ row_text row)
arguments (Session n) = Some (numeral n.0)
arguments (Get name p) = Some (key_text name p)
arguments (Put name p n) = Some (key_text name p ++ 32 ∷ signed_numeral n)
arguments (Puts name p bytes) = Some (key_text name p ++ 32 ∷ bytes_text bytes)
arguments (Add name p n) = Some (key_text name p ++ 32 ∷ signed_numeral n)
arguments (Del name p) = Some (key_text name p)
arguments (Need name p n) = Some (key_text name p ++ 32 ∷ signed_numeral n)
arguments (Client s t) = Some (numeral s.0 ++ 32 ∷ numeral t)
arguments (Deliver i) = Some (numeral i)
arguments _ = None

-- the text is what follows the word in the line, which is of the form, and what is kept of the line is the line itself where its
-- numbers fit their types
pub record ReadsArguments (word : Word) (text : List ℕ) (kept : Option Line) : Type 0 where
  pub line : Line
  pub of_word : word_of line ≡ word
  pub form : IsForm line
  pub text_is : arguments line ≡ Some text
  pub kept_is : SomeIff kept (Fits line) line

-- the text follows the word in no line of the form
abbrev pub ReadsNoArguments : Word → List ℕ → Type 0
ReadsNoArguments word text = (l : Line) → word_of l ≡ word → IsForm l → ¬ (arguments l ≡ Some text)

-- the text is that of a line of the form; what is read of it is the kind of the line, and the line itself where its numbers fit
-- their types
pub record IsReadAs (text : List ℕ) (read : ReadLine) : Type 0 where
  pub line : Line
  pub form : IsForm line
  pub text_is : text ≡ line_text line
  pub word_is : read.word ≡ word_of line
  pub line_is : SomeIff read.line (Fits line) line

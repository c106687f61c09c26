-- The lines of a history: an answer each, and the end line. A line stands here with any numbers, however great, and any names of keys.
use Rattle.std.specs.Prelude.{List, None, Option, Some, codes, flat_map, map, true, ℕ, ℤ, ⊤, ◌++◌, ◌≡◌}
use Rattle.scene_text.specs.LineTexts.{AreBytes, bytes_text, key_text}
use Rattle.scene_text.specs.Numerals.{numeral, signed_numeral}
use Rattle.scene_text.specs.SceneLines.{key_at, text_at}
use Rattle.str_base.specs.declared.names.Cause.{Cause}
use Rattle.str_base.specs.declared.names.Cause.TheVariants.{Conflict, Late, Lost, Wish}
use Rattle.str_base.specs.declared.names.NodeId.{NodeId}
use Rattle.str_base.specs.declared.names.PartId.{PartId}
use Rattle.str_base.specs.declared.names.Ts.{Ts}
use Rattle.str_base.specs.declared.names.TxId.{TxId}
use Rattle.str_base.specs.declared.names.Value.{Value}
use Rattle.str_base.specs.declared.names.Value.TheVariants.{Absent, Num, Text}
use Rattle.str_model.specs.Lines.{Counts}
use Rattle.str_model.specs.declared.messages.Answer.{Answer}
use Rattle.str_model.specs.declared.messages.Outcome.{Outcome}
use Rattle.str_model.specs.declared.messages.Outcome.TheVariants.{Aborted, Committed}
use Rattle.str_model.specs.declared.names.Got.{Got}
use Rattle.str_scene.specs.Lists.{Each}
use Rattle.str_scene.specs.SceneLimits.{is_name}
use Rattle.str_scene.specs.Scenes.{KeyTable}
use Rattle.str_scene.specs.declared.names.TxPlace.{TxPlace}

-- a value: none, a number or a byte string
pub data AnyValue : Type 0 where
  NoValue : AnyValue
  Number : ℤ → AnyValue
  Bytes : List ℕ → AnyValue

-- a get: a key's name and partition, and its value
pub record AnyGet : Type 0 where
  pub key : List ℕ × PartId
  pub value : AnyValue

-- why a transaction aborted
pub data AnyCause : Type 0 where
  ByConflict : TxId → List ℕ × PartId → NodeId → AnyCause
  ByLost : TxId → AnyCause
  ByLate : TxId → Ts → AnyCause
  ByWish : AnyCause

-- how a transaction ended
pub data AnyOutcome : Type 0 where
  Commits : Option Ts → List AnyGet → AnyOutcome
  Aborts : AnyCause → AnyOutcome

-- an answer: the transaction's name, its place, its snapshot and how it ended
pub record AnyAnswer : Type 0 where
  pub tx : TxId
  pub place : TxPlace
  pub rs : Ts
  pub outcome : AnyOutcome

-- ---- how they are spelled

abbrev pub name_text : TxId → List ℕ
name_text t = numeral t.node.0 ++ (codes "." ++ numeral t.seq)

abbrev pub place_text : TxPlace → List ℕ
place_text p = codes "s" ++ (numeral p.session.0 ++ (codes "/" ++ numeral p.index))

abbrev pub value_text : AnyValue → List ℕ
value_text NoValue = codes "none"
value_text (Number n) = signed_numeral n
value_text (Bytes bytes) = bytes_text bytes

abbrev pub get_text : AnyGet → List ℕ
get_text g = key_text g.key.0 g.key.1 ++ (codes "=" ++ value_text g.value)

-- each after a space
abbrev pub gets_text : List AnyGet → List ℕ
gets_text gets = flat_map (λ g. codes " " ++ get_text g) gets

abbrev pub conflict_text : TxId → List ℕ × PartId → NodeId → List ℕ
conflict_text by k n = name_text by ++ (codes " " ++ (key_text k.0 k.1 ++ (codes " at=" ++ numeral n.0)))

abbrev pub late_text : TxId → Ts → List ℕ
late_text by fc = name_text by ++ (codes " fc=" ++ numeral fc.0)

abbrev pub cause_text : AnyCause → List ℕ
cause_text (ByConflict by k n) = codes "conflict " ++ conflict_text by k n
cause_text (ByLost by) = codes "lost " ++ name_text by
cause_text (ByLate by fc) = codes "late " ++ late_text by fc
cause_text ByWish = codes "wish"

-- a final timestamp, a minus where there is none
abbrev pub fc_text : Option Ts → List ℕ
fc_text None = codes "-"
fc_text (Some fc) = numeral fc.0

abbrev pub commit_text : Ts → Option Ts → List AnyGet → List ℕ
commit_text rs fc gets = codes "rs=" ++ (numeral rs.0 ++ (codes " fc=" ++ (fc_text fc ++ gets_text gets)))

abbrev pub abort_text : Ts → AnyCause → List ℕ
abort_text rs cause = codes "rs=" ++ (numeral rs.0 ++ (codes " " ++ cause_text cause))

abbrev pub end_text : Ts → AnyOutcome → List ℕ
end_text rs (Commits fc gets) = codes "commit " ++ commit_text rs fc gets
end_text rs (Aborts cause) = codes "abort " ++ abort_text rs cause

-- the line of an answer, without its line feed
abbrev pub answer_text : AnyAnswer → List ℕ
answer_text a = name_text a.tx ++ (codes " " ++ (place_text a.place ++ (codes " " ++ end_text a.rs a.outcome)))

-- the numbers of the end line
abbrev pub numbers_text : Counts → List ℕ
numbers_text c =
    codes "commits=" ++ (numeral c.commits ++ (codes " aborts=" ++ (numeral c.aborts ++ (codes " held=" ++ (numeral c.held
    ++ (codes " unbegun=" ++ (numeral c.unbegun ++ (codes " messages=" ++ numeral c.messages))))))))

-- the end line, without its line feed
abbrev pub counts_text : Counts → List ℕ
counts_text c = codes "end " ++ numbers_text c

-- ---- the form

abbrev pub IsFormValue : AnyValue → Type 0
IsFormValue NoValue = ⊤
IsFormValue (Number n) = ⊤
IsFormValue (Bytes bytes) = AreBytes bytes

-- a name that is one, and bytes that are
abbrev pub IsFormGet : AnyGet → Type 0
IsFormGet g = (is_name g.key.0 ≡ true) × IsFormValue g.value

abbrev pub IsFormCause : AnyCause → Type 0
IsFormCause (ByConflict by k n) = is_name k.0 ≡ true
IsFormCause (ByLost by) = ⊤
IsFormCause (ByLate by fc) = ⊤
IsFormCause ByWish = ⊤

abbrev pub IsFormOutcome : AnyOutcome → Type 0
IsFormOutcome (Commits fc gets) = Each IsFormGet gets
IsFormOutcome (Aborts cause) = IsFormCause cause

-- the answer is of the form, whatever its numbers are
abbrev pub IsForm : AnyAnswer → Type 0
IsForm a = IsFormOutcome a.outcome

-- ---- the answers of a scene among them, with the names of its table

abbrev pub any_value : KeyTable → Value → AnyValue
any_value table Absent = NoValue
any_value table (Num n) = Number n
any_value table (Text t) = Bytes (text_at table t)

abbrev pub any_get : KeyTable → Got → AnyGet
any_get table g = record { key = key_at table g.key; value = any_value table g.value }

abbrev pub any_cause : KeyTable → Cause → AnyCause
any_cause table (Conflict by k n) = ByConflict by (key_at table k) n
any_cause table (Lost by) = ByLost by
any_cause table (Late by fc) = ByLate by fc
any_cause table Wish = ByWish

abbrev pub any_gets : KeyTable → List Got → List AnyGet
any_gets table gets = map (any_get table) gets

abbrev pub any_outcome : KeyTable → Outcome → AnyOutcome
any_outcome table (Committed fc gets) = Commits fc (any_gets table gets)
any_outcome table (Aborted cause) = Aborts (any_cause table cause)

abbrev pub any_answer : KeyTable → Answer → AnyAnswer
any_answer table a = record { tx = a.tx; place = a.place; rs = a.rs; outcome = any_outcome table a.outcome }

-- the line of an answer of a scene with this table, without its line feed
abbrev pub spelled_answer : KeyTable → Answer → List ℕ
spelled_answer table a = answer_text (any_answer table a)

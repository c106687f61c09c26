-- What is read of the parts of an answer's line: what they spell, and what of it is in range.
use Rattle.history_reading.specs.Histories.{gets_of}
use Rattle.history_reading.specs.HistoryLines.{AnyAnswer, AnyCause, AnyGet, AnyOutcome, AnyValue, ByConflict, ByLate, IsForm, IsFormCause, IsFormGet, IsFormOutcome, IsFormValue, abort_text, answer_text, commit_text, any_answer, any_cause, any_get, any_gets, any_outcome, any_value, cause_text, conflict_text, end_text, fc_text, get_text, gets_text, late_text, name_text, numbers_text, place_text, value_text}
use Rattle.history_reading.specs.HistoryRanges.{IsCause, IsFinal, IsGot, IsNamed, IsOfScene, IsOutcome, IsPlaced, IsTime, IsValue}
use Rattle.history_reading.specs.declared.endings.Ending.{Ending}
use Rattle.scene_text.specs.LineReading.{is_without}
use Rattle.scene_text.specs.LineTexts.{key_text}
use Rattle.scene_text.specs.Numerals.{numeral}
use Rattle.scene_text.specs.SceneLines.{key_at}
use Rattle.std.specs.Option.{SomeIff}
use Rattle.std.specs.Prelude.{Bool, Err, List, None, Option, Result, Some, [], codes, false, true, ℕ, ⊤, ◌++◌, ◌<◌, ◌^◌, ◌∷◌, ◌≡◌}
use Rattle.str_base.specs.declared.limits.TheConstants.{OPERATIONS}
use Rattle.str_base.specs.declared.names.Cause.{Cause}
use Rattle.str_base.specs.declared.names.KeyId.{KeyId}
use Rattle.str_base.specs.declared.names.NodeId.{NodeId}
use Rattle.str_base.specs.declared.names.PartId.{PartId}
use Rattle.str_base.specs.declared.names.Ts.{Ts}
use Rattle.str_base.specs.declared.names.TxId.{TxId}
use Rattle.str_base.specs.declared.names.Value.{Value}
use Rattle.str_model.specs.Lines.{Counts}
use Rattle.str_model.specs.declared.messages.Answer.{Answer}
use Rattle.str_model.specs.declared.messages.Outcome.{Outcome}
use Rattle.str_model.specs.declared.names.Got.{Got}
use Rattle.str_scene.specs.Lists.{Each}
use Rattle.str_scene.specs.SceneLimits.{Exists, IsKeyOf, is_name}
use Rattle.str_scene.specs.Scenes.{KeyTable, Scene, Session}
use Rattle.str_scene.specs.declared.faults.SceneFault.{SceneFault}
use Rattle.str_scene.specs.declared.faults.SceneFault.TheVariants.{Count, Form, Memory, Range}
use Rattle.str_scene.specs.declared.names.TxPlace.{TxPlace}

-- what is kept is in range and is this one; where nothing is kept no such one is in range
abbrev pub Known : {X Y : Type 0} → (X → Type 0) → (X → Y) → Y → Option X → Type 0
Known {X} {Y} P f y (Some x) = P x × (f x ≡ y)
Known {X} {Y} P f y None = (x : X) → P x → ¬ (f x ≡ y)

-- the same of what stands for itself
abbrev pub KnownItself : {X : Type 0} → (X → Type 0) → X → Option X → Type 0
KnownItself {X} P y kept = Known P (λ x. x) y kept

-- a name and a place by their numbers
abbrev pub name_of : ℕ → ℕ → TxId
name_of node seq = record { node = record { 0 = node }; seq = seq }

abbrev pub place_of : ℕ → ℕ → TxPlace
place_of session index = record { session = record { 0 = session }; index = index }

-- the text spells the name of a transaction, which is kept where it may be one of the scene
pub record SpellsName (nodes : ℕ) (text : List ℕ) (kept : Option TxId) : Type 0 where
  pub name : TxId
  pub text_is : text ≡ name_text name
  pub kept_is : KnownItself (IsNamed nodes) name kept

abbrev pub SpellsNoName : List ℕ → Type 0
SpellsNoName text = (t : TxId) → ¬ (text ≡ name_text t)

-- the text spells the place of a transaction, which is kept where it is one of the scene
pub record SpellsPlace (sessions : List Session) (text : List ℕ) (kept : Option TxPlace) : Type 0 where
  pub place : TxPlace
  pub text_is : text ≡ place_text place
  pub kept_is : KnownItself (IsPlaced sessions) place kept

abbrev pub SpellsNoPlace : List ℕ → Type 0
SpellsNoPlace text = (p : TxPlace) → ¬ (text ≡ place_text p)

-- the text spells a timestamp, which is kept where it is below 2^63
pub record SpellsTime (text : List ℕ) (kept : Option Ts) : Type 0 where
  pub time : Ts
  pub text_is : text ≡ numeral time.0
  pub kept_is : KnownItself IsTime time kept

-- the text spells a node, which is kept where it is one of the scene
pub record SpellsNode (nodes : ℕ) (text : List ℕ) (kept : Option NodeId) : Type 0 where
  pub node : NodeId
  pub text_is : text ≡ numeral node.0
  pub kept_is : KnownItself (λ n. Exists n.0 nodes) node kept

-- the text spells a final timestamp or a minus
pub record SpellsFinal (text : List ℕ) (kept : Option (Option Ts)) : Type 0 where
  pub fc : Option Ts
  pub text_is : text ≡ fc_text fc
  pub kept_is : KnownItself IsFinal fc kept

abbrev pub SpellsNoFinal : List ℕ → Type 0
SpellsNoFinal text = (fc : Option Ts) → ¬ (text ≡ fc_text fc)

-- the text spells a key, which is kept where it is one of the table
pub record SpellsKnownKey (table : KeyTable) (text : List ℕ) (kept : Option KeyId) : Type 0 where
  pub key : List ℕ × PartId
  pub named : is_name key.0 ≡ true
  pub text_is : text ≡ key_text key.0 key.1
  pub kept_is : Known (IsKeyOf table) (key_at table) key kept

-- the text spells a value, which is kept where it is a number of 64 bits or a byte string of the table
pub record SpellsValue (table : KeyTable) (text : List ℕ) (kept : Option Value) : Type 0 where
  pub value : AnyValue
  pub form : IsFormValue value
  pub text_is : text ≡ value_text value
  pub kept_is : Known (IsValue table) (any_value table) value kept

abbrev pub SpellsNoValue : List ℕ → Type 0
SpellsNoValue text = (v : AnyValue) → IsFormValue v → ¬ (text ≡ value_text v)

-- the text spells a get, which is kept where its key and its value are of the table
pub record SpellsGet (table : KeyTable) (text : List ℕ) (kept : Option Got) : Type 0 where
  pub get : AnyGet
  pub form : IsFormGet get
  pub text_is : text ≡ get_text get
  pub kept_is : Known (IsGot table) (any_get table) get kept

abbrev pub SpellsNoGet : List ℕ → Type 0
SpellsNoGet text = (g : AnyGet) → IsFormGet g → ¬ (text ≡ get_text g)

-- the gets of a table
abbrev pub AreGots : KeyTable → List Got → Type 0
AreGots table gets = Each (IsGot table) gets

-- what may follow a word: nothing, or a space and more
abbrev pub IsAfterWord : List ℕ → Type 0
IsAfterWord [] = ⊤
IsAfterWord (b ∷ bs) = b ≡ 32

-- gets so far, where all are of the table
abbrev pub kept_gets : Bool → List Got → Option (List Got)
kept_gets true gets = Some gets
kept_gets false gets = None

-- with one more
abbrev pub with_get : Option (List Got) → Option Got → Option (List Got)
with_get None got = None
with_get (Some gets) None = None
with_get (Some gets) (Some got) = Some (gets ++ got ∷ [])

-- the text spells gets, each after a space, which are kept where all are of the table
pub record SpellsGets (table : KeyTable) (text : List ℕ) (kept : Option (List Got)) : Type 0 where
  pub gets : List AnyGet
  pub forms : Each IsFormGet gets
  pub text_is : text ≡ gets_text gets
  pub kept_is : Known (AreGots table) (any_gets table) gets kept

abbrev pub SpellsNoGets : List ℕ → Type 0
SpellsNoGets text = (gets : List AnyGet) → Each IsFormGet gets → ¬ (text ≡ gets_text gets)

-- the text spells a cause, which is kept where it names what the scene has
pub record SpellsCause (scene : Scene) (text : List ℕ) (kept : Option Cause) : Type 0 where
  pub cause : AnyCause
  pub form : IsFormCause cause
  pub text_is : text ≡ cause_text cause
  pub kept_is : Known (IsCause scene) (any_cause scene.keys) cause kept

abbrev pub SpellsNoCause : List ℕ → Type 0
SpellsNoCause text = (c : AnyCause) → IsFormCause c → ¬ (text ≡ cause_text c)

-- the same of a conflict, and of a dependency that committed late
pub record SpellsConflict (scene : Scene) (text : List ℕ) (kept : Option Cause) : Type 0 where
  pub by : TxId
  pub key : List ℕ × PartId
  pub node : NodeId
  pub named : is_name key.0 ≡ true
  pub text_is : text ≡ conflict_text by key node
  pub kept_is : Known (IsCause scene) (any_cause scene.keys) (ByConflict by key node) kept

abbrev pub SpellsNoConflict : List ℕ → Type 0
SpellsNoConflict text = (by : TxId) (k : List ℕ × PartId) (n : NodeId) → is_name k.0 ≡ true → ¬ (text ≡ conflict_text by k n)

pub record SpellsLate (scene : Scene) (text : List ℕ) (kept : Option Cause) : Type 0 where
  pub by : TxId
  pub fc : Ts
  pub text_is : text ≡ late_text by fc
  pub kept_is : Known (IsCause scene) (any_cause scene.keys) (ByLate by fc) kept

abbrev pub SpellsNoLate : List ℕ → Type 0
SpellsNoLate text = (by : TxId) (fc : Ts) → ¬ (text ≡ late_text by fc)

-- ---- how a transaction ended, and its answer

-- a snapshot and an outcome that name what the scene has
abbrev pub IsEnd : Scene → Ts × Outcome → Type 0
IsEnd scene e = IsTime e.0 × IsOutcome scene e.1

abbrev pub any_end : KeyTable → Ts × Outcome → Ts × AnyOutcome
any_end table e = (e.0, any_outcome table e.1)

-- the text spells this end, which names what the scene has
pub record SpellsEnd (scene : Scene) (text : List ℕ) (e : Ts × Outcome) : Type 0 where
  pub ranged : IsEnd scene e
  pub form : IsFormOutcome (any_outcome scene.keys e.1)
  pub text_is : text ≡ end_text e.0 (any_outcome scene.keys e.1)

-- the text spells an end that names what the scene does not have
pub record SpellsWideEnd (scene : Scene) (text : List ℕ) : Type 0 where
  pub rs : Ts
  pub outcome : AnyOutcome
  pub form : IsFormOutcome outcome
  pub text_is : text ≡ end_text rs outcome
  pub wide : (e : Ts × Outcome) → IsEnd scene e → ¬ (any_end scene.keys e ≡ (rs, outcome))

-- the text spells an end with more than 16 gets, which names what the scene has
pub record SpellsLongEnd (scene : Scene) (text : List ℕ) : Type 0 where
  pub end : Ts × Outcome
  pub spells : SpellsEnd scene text end
  pub long : OPERATIONS < gets_of end.1

abbrev pub SpellsNoEnd : List ℕ → Type 0
SpellsNoEnd text = (rs : Ts) (o : AnyOutcome) → IsFormOutcome o → ¬ (text ≡ end_text rs o)

-- why the text is refused as an end
abbrev pub IsBadEnd : Scene → List ℕ → SceneFault → Type 0
IsBadEnd scene text Form = SpellsNoEnd text
IsBadEnd scene text Range = SpellsWideEnd scene text
IsBadEnd scene text Count = SpellsLongEnd scene text
IsBadEnd scene text Memory = ⊤

-- why an answer is refused that names a transaction or a place which the scene does not have, where its end reads so
abbrev pub wide_fault : Result (Ts × Outcome) SceneFault → SceneFault
wide_fault (Err Form) = Form
wide_fault (Err Memory) = Memory
wide_fault _ = Range

-- the text spells an answer of the scene
pub record SpellsAnswer (scene : Scene) (text : List ℕ) (a : Answer) : Type 0 where
  pub ranged : IsOfScene scene a
  pub text_is : text ≡ answer_text (any_answer scene.keys a)

-- the text spells an answer that names what the scene does not have
pub record SpellsWideAnswer (scene : Scene) (text : List ℕ) : Type 0 where
  pub answer : AnyAnswer
  pub form : IsForm answer
  pub text_is : text ≡ answer_text answer
  pub wide : (a : Answer) → IsOfScene scene a → ¬ (any_answer scene.keys a ≡ answer)

-- the text spells an answer of the scene with more than 16 gets
pub record SpellsLongAnswer (scene : Scene) (text : List ℕ) : Type 0 where
  pub answer : Answer
  pub spells : SpellsAnswer scene text answer
  pub long : OPERATIONS < gets_of answer.outcome

abbrev pub SpellsNoAnswer : List ℕ → Type 0
SpellsNoAnswer text = (a : AnyAnswer) → IsForm a → ¬ (text ≡ answer_text a)

-- why the text is refused as an answer
abbrev pub IsBadAnswer : Scene → List ℕ → SceneFault → Type 0
IsBadAnswer scene text Form = SpellsNoAnswer text
IsBadAnswer scene text Range = SpellsWideAnswer scene text
IsBadAnswer scene text Count = SpellsLongAnswer scene text
IsBadAnswer scene text Memory = ⊤

-- ---- the end line

-- the text spells a number after a word, and a space and more after it; the number is kept where it has 64 bits
pub record SpellsCounted (text word : List ℕ) (kept : Option ℕ) (rest : List ℕ) : Type 0 where
  pub number : ℕ
  pub text_is : text ≡ word ++ (numeral number ++ 32 ∷ rest)
  pub kept_is : SomeIff kept (number < 2 ^ 64) number

abbrev pub SpellsNoCounted : List ℕ → List ℕ → Type 0
SpellsNoCounted text word = (n : ℕ) (rest : List ℕ) → ¬ (text ≡ word ++ (numeral n ++ 32 ∷ rest))

-- all numbers have 64 bits
pub record AreSmall (c : Counts) : Type 0 where
  pub commits : c.commits < 2 ^ 64
  pub aborts : c.aborts < 2 ^ 64
  pub held : c.held < 2 ^ 64
  pub unbegun : c.unbegun < 2 ^ 64
  pub messages : c.messages < 2 ^ 64

-- the numbers of commits and of aborts
abbrev pub ending_of : Counts → Ending
ending_of c = record { commits = c.commits; aborts = c.aborts }

-- the text spells the numbers of an end line, of which two are kept where all have 64 bits
pub record SpellsNumbers (text : List ℕ) (kept : Option Ending) : Type 0 where
  pub counts : Counts
  pub text_is : text ≡ numbers_text counts
  pub kept_is : SomeIff kept (AreSmall counts) (ending_of counts)

abbrev pub SpellsNoNumbers : List ℕ → Type 0
SpellsNoNumbers text = (c : Counts) → ¬ (text ≡ numbers_text c)

-- the parts of a commit after its first word: its snapshot and its final timestamp as text, and its gets
pub record IsCommitParts (text rs fc gets : List ℕ) : Type 0 where
  pub text_is : text ≡ codes "rs=" ++ (rs ++ 32 ∷ (codes "fc=" ++ (fc ++ gets)))
  pub rs_word : is_without 32 rs ≡ true
  pub fc_word : is_without 32 fc ≡ true
  pub after : IsAfterWord gets

abbrev pub SpellsNoCommit : List ℕ → Type 0
SpellsNoCommit text = (rs : Ts) (fc : Option Ts) (gets : List AnyGet) → Each IsFormGet gets → ¬ (text ≡ commit_text rs fc gets)

-- the parts of an abort after its first word: its snapshot as text, and its cause
pub record IsAbortParts (text rs cause : List ℕ) : Type 0 where
  pub text_is : text ≡ codes "rs=" ++ (rs ++ 32 ∷ cause)
  pub rs_word : is_without 32 rs ≡ true

abbrev pub SpellsNoAbort : List ℕ → Type 0
SpellsNoAbort text = (rs : Ts) (cause : AnyCause) → IsFormCause cause → ¬ (text ≡ abort_text rs cause)

-- the parts of an answer: its name and its place as text, and how it ended
pub record IsAnswerParts (text name place end : List ℕ) : Type 0 where
  pub text_is : text ≡ name ++ 32 ∷ (place ++ 32 ∷ end)
  pub name_word : is_without 32 name ≡ true
  pub place_word : is_without 32 place ≡ true

-- what follows the first word of an end
abbrev pub IsBadCommit : Scene → List ℕ → SceneFault → Type 0
IsBadCommit scene text f = IsBadEnd scene (codes "commit " ++ text) f

abbrev pub IsBadAbort : Scene → List ℕ → SceneFault → Type 0
IsBadAbort scene text f = IsBadEnd scene (codes "abort " ++ text) f

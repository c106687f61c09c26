-- The text of a history is its lines, each with its line feed.
use Rattle.std.proofs.Common.{List, None, Option, Some, [], ap, append-nil, append_assoc, arith, decimal, flat_map, length, map, not, refl, slice_get, sym, ℕ, ◌++◌, ◌<◌, ◌^◌, ◌∙◌, ◌∷◌, ◌≡◌, ◌≤◌}
use Rattle.std.proofs.lemmas.Grind.{flat_map-append}
use Rattle.std.proofs.lemmas.List.Sums.{count_by-le-length}
use Rattle.history_reading.proofs.Spelled.PartsRead.{placed_within}
use Rattle.history_reading.proofs.TypedAnswers.{key_stands, text_stands}
use Rattle.history_reading.specs.Histories.{IsEnding, IsHistory, history_lines, history_spelling}
use Rattle.history_reading.specs.HistoryLines.{any_cause, any_gets, any_outcome, any_value, cause_text, counts_text, end_text, fc_text, get_text, gets_text, name_text, spelled_answer, value_text, any_get}
use Rattle.history_reading.specs.HistoryRanges.{IsCause, IsFinal, IsGot, IsNamed, IsOfScene, IsOutcome, IsTime, IsValue}
use Rattle.scene_text.proofs.Spelling.Numerals.{numeral-decimal, signed_numeral-decimal}
use Rattle.scene_text.specs.LineTexts.{key_text}
use Rattle.scene_text.specs.Numerals.{numeral}
use Rattle.scene_text.specs.SceneLines.{key_at}
use Rattle.str_base.specs.declared.names.Cause.{Cause}
use Rattle.str_base.specs.declared.names.Cause.TheVariants.{Conflict, Late, Lost, Wish}
use Rattle.str_base.specs.declared.names.KeyId.{KeyId}
use Rattle.str_base.specs.declared.names.Ts.{Ts}
use Rattle.str_base.specs.declared.names.TxId.{TxId}
use Rattle.str_base.specs.declared.names.Value.{Value}
use Rattle.str_base.specs.declared.names.Value.TheVariants.{Absent, Num, Text}
use Rattle.str_model.specs.Lines.{Counts, answer_line, cause_spelled, end_line, fc_spelled, get_spelled, is_commit, outcome_spelled, tx_spelled, value_spelled}
use Rattle.str_model.specs.declared.messages.Answer.{Answer}
use Rattle.str_model.specs.declared.messages.Outcome.{Outcome}
use Rattle.str_model.specs.declared.messages.Outcome.TheVariants.{Aborted, Committed}
use Rattle.str_model.specs.declared.names.Got.{Got}
use Rattle.str_scene.specs.Lists.{Each}
use Rattle.str_scene.specs.SceneLimits.{IsKeyOf, IsScene}
use Rattle.str_scene.specs.Scenes.{Scene}
use Rattle.str_scene.specs.Spelling.{ended, key_spelled, name_spelled, scene_lines, spelling, text_spelled}

-- ---- the parts

name_written : (nodes : ℕ) (t : TxId) → nodes ≤ 8 → IsNamed nodes t → tx_spelled t ≡ name_text t
name_written nodes t few h =
    (λ i. (sym (numeral-decimal t.node.0 (omega (arith, h.node.1))) i ++ 46 ∷ []) ++ sym (numeral-decimal t.seq (omega (arith, h.last))) i)
    ∙ append_assoc (numeral t.node.0) (46 ∷ []) (numeral t.seq)

time_written : (t : Ts) → IsTime t → decimal t.0 ≡ numeral t.0
time_written t h = sym (numeral-decimal t.0 (omega (arith, h)))

fc_written : (fc : Option Ts) → IsFinal fc → fc_spelled fc ≡ fc_text fc
fc_written None h = refl
fc_written (Some fc) h = time_written fc h

pub key_written : (scene : Scene) (k : KeyId) → IsScene scene → IsKeyOf scene.keys k → key_spelled scene.keys k ≡ key_text (key_at scene.keys k).0 (key_at scene.keys k).1
key_written scene k s h =
    let at : slice_get scene.keys.names k.0 ≡ Some (key_at scene.keys k) = key_stands scene s k h in
    let part = (s.table.keys k.0 (key_at scene.keys k) at).part in
    ap name_spelled at ∙ ap (λ ds. ((key_at scene.keys k).0 ++ 64 ∷ []) ++ ds) (sym (numeral-decimal (key_at scene.keys k).1.0 (omega (arith, part.1, s.parts.1))))

value_written : (scene : Scene) (v : Value) → IsScene scene → IsValue scene.keys v → value_spelled scene.keys v ≡ value_text (any_value scene.keys v)
value_written scene Absent s h = refl
value_written scene (Num n) s h = sym (signed_numeral-decimal n h)
value_written scene (Text t) s h = ap text_spelled (text_stands scene s t h)

-- a get, with a space before it
one_get : (k v : List ℕ) → ((32 ∷ k) ++ 61 ∷ []) ++ v ≡ 32 ∷ (k ++ 61 ∷ v)
one_get k v = ap (λ xs. 32 ∷ xs) (append_assoc k (61 ∷ []) v)

get_written : (scene : Scene) (g : Got) → IsScene scene → IsGot scene.keys g → get_spelled scene.keys g ≡ 32 ∷ get_text (any_get scene.keys g)
get_written scene g s h =
    (λ i. ((32 ∷ key_written scene g.key s h.0 i) ++ 61 ∷ []) ++ value_written scene g.value s h.1 i)
    ∙ one_get (key_text (key_at scene.keys g.key).0 (key_at scene.keys g.key).1) (value_text (any_value scene.keys g.value))

gets_written : (scene : Scene) (gets : List Got) → IsScene scene → Each (IsGot scene.keys) gets → flat_map (get_spelled scene.keys) gets ≡ gets_text (any_gets scene.keys gets)
gets_written scene [] s h = refl
gets_written scene (g ∷ gets) s h = λ i. get_written scene g s h.0 i ++ gets_written scene gets s h.1 i

-- five words in a row
five : (a b c d e : List ℕ) → (((a ++ b) ++ c) ++ d) ++ e ≡ a ++ (b ++ (c ++ (d ++ e)))
five a b c d e = simp append_assoc

cause_written : (scene : Scene) (c : Cause) → IsScene scene → IsCause scene c → cause_spelled scene.keys c ≡ cause_text (any_cause scene.keys c)
cause_written scene (Conflict by k n) s h =
    (λ i. (((99 ∷ 111 ∷ 110 ∷ 102 ∷ 108 ∷ 105 ∷ 99 ∷ 116 ∷ 32 ∷ name_written scene.nodes by s.nodes.1 h.0 i) ++ 32 ∷ []) ++ key_written scene k s h.1 i ++ (32 ∷ 97 ∷ 116 ∷ 61 ∷ [])) ++ sym (numeral-decimal n.0 (omega (arith, h.2.1, s.nodes.1))) i)
    ∙ five (99 ∷ 111 ∷ 110 ∷ 102 ∷ 108 ∷ 105 ∷ 99 ∷ 116 ∷ 32 ∷ name_text by) (32 ∷ []) (key_text (key_at scene.keys k).0 (key_at scene.keys k).1) (32 ∷ 97 ∷ 116 ∷ 61 ∷ []) (numeral n.0)
cause_written scene (Lost by) s h = ap (λ xs. 108 ∷ 111 ∷ 115 ∷ 116 ∷ 32 ∷ xs) (name_written scene.nodes by s.nodes.1 h)
cause_written scene (Late by fc) s h =
    (λ i. ((108 ∷ 97 ∷ 116 ∷ 101 ∷ 32 ∷ name_written scene.nodes by s.nodes.1 h.0 i) ++ (32 ∷ 102 ∷ 99 ∷ 61 ∷ [])) ++ time_written fc h.1 i)
    ∙ append_assoc (108 ∷ 97 ∷ 116 ∷ 101 ∷ 32 ∷ name_text by) (32 ∷ 102 ∷ 99 ∷ 61 ∷ []) (numeral fc.0)
cause_written scene Wish s h = refl

outcome_written : (scene : Scene) (rs : Ts) (o : Outcome) → IsScene scene → IsTime rs → IsOutcome scene o → outcome_spelled scene.keys rs o ≡ 32 ∷ end_text rs (any_outcome scene.keys o)
outcome_written scene rs (Committed fc gets) s t h =
    (λ i. (((32 ∷ 99 ∷ 111 ∷ 109 ∷ 109 ∷ 105 ∷ 116 ∷ 32 ∷ 114 ∷ 115 ∷ 61 ∷ time_written rs t i) ++ (32 ∷ 102 ∷ 99 ∷ 61 ∷ [])) ++ fc_written fc h.0 i) ++ gets_written scene gets s h.1 i)
    ∙ five (32 ∷ 99 ∷ 111 ∷ 109 ∷ 109 ∷ 105 ∷ 116 ∷ 32 ∷ 114 ∷ 115 ∷ 61 ∷ []) (numeral rs.0) (32 ∷ 102 ∷ 99 ∷ 61 ∷ []) (fc_text fc) (gets_text (any_gets scene.keys gets))
outcome_written scene rs (Aborted c) s t h =
    (λ i. ((32 ∷ 97 ∷ 98 ∷ 111 ∷ 114 ∷ 116 ∷ 32 ∷ 114 ∷ 115 ∷ 61 ∷ time_written rs t i) ++ 32 ∷ []) ++ cause_written scene c s h i)
    ∙ append_assoc (32 ∷ 97 ∷ 98 ∷ 111 ∷ 114 ∷ 116 ∷ 32 ∷ 114 ∷ 115 ∷ 61 ∷ numeral rs.0) (32 ∷ []) (cause_text (any_cause scene.keys c))

-- an answer's words in a row
answer_row : (n b c e : List ℕ) → (((((n ++ (32 ∷ 115 ∷ [])) ++ b) ++ 47 ∷ []) ++ c) ++ 32 ∷ e) ++ 10 ∷ [] ≡ (n ++ 32 ∷ 115 ∷ ((b ++ 47 ∷ c) ++ 32 ∷ e)) ++ 10 ∷ []
answer_row n b c e = simp append_assoc

-- the line of an answer
pub answer_written : (scene : Scene) (a : Answer) → IsScene scene → IsOfScene scene a → answer_line scene.keys a ≡ ended (spelled_answer scene.keys a)
answer_written scene a s h =
    (λ i. (((((name_written scene.nodes a.tx s.nodes.1 h.tx i ++ (32 ∷ 115 ∷ [])) ++ sym (numeral-decimal a.place.session.0 session) i) ++ 47 ∷ []) ++ sym (numeral-decimal a.place.index index) i)
    ++ outcome_written scene a.rs a.outcome s h.rs h.outcome i) ++ 10 ∷ [])
    ∙ answer_row (name_text a.tx) (numeral a.place.session.0) (numeral a.place.index) (end_text a.rs (any_outcome scene.keys a.outcome))
  where
    session : a.place.session.0 < 2 ^ 64
    session = omega (arith, (placed_within scene.sessions a.place h.place).0, s.few_sessions)

    index : a.place.index < 2 ^ 64
    index = omega (arith, (placed_within scene.sessions a.place h.place).1, s.few_transactions)

pub answers_written : (scene : Scene) (as' : List Answer) → IsScene scene → Each (IsOfScene scene) as' → flat_map (answer_line scene.keys) as' ≡ flat_map ended (map (spelled_answer scene.keys) as')
answers_written scene [] s h = refl
answers_written scene (a ∷ as') s h = λ i. answer_written scene a s h.0 i ++ answers_written scene as' s h.1 i

-- ---- the end line

counts_row : (x a b h c u d m e : List ℕ) → (((((((x ++ a) ++ b) ++ h) ++ c) ++ u) ++ d) ++ m) ++ e ≡ x ++ (a ++ (b ++ (h ++ (c ++ (u ++ (d ++ (m ++ e)))))))
counts_row x a b h c u d m e = simp append_assoc

-- the words before its numbers
abbrev aborts_word : List ℕ
aborts_word = 32 ∷ 97 ∷ 98 ∷ 111 ∷ 114 ∷ 116 ∷ 115 ∷ 61 ∷ []

abbrev held_word : List ℕ
held_word = 32 ∷ 104 ∷ 101 ∷ 108 ∷ 100 ∷ 61 ∷ []

abbrev unbegun_word : List ℕ
unbegun_word = 32 ∷ 117 ∷ 110 ∷ 98 ∷ 101 ∷ 103 ∷ 117 ∷ 110 ∷ 61 ∷ []

abbrev messages_word : List ℕ
messages_word = 32 ∷ 109 ∷ 101 ∷ 115 ∷ 115 ∷ 97 ∷ 103 ∷ 101 ∷ 115 ∷ 61 ∷ []

abbrev commits_word : List ℕ
commits_word = 101 ∷ 110 ∷ 100 ∷ 32 ∷ 99 ∷ 111 ∷ 109 ∷ 109 ∷ 105 ∷ 116 ∷ 115 ∷ 61 ∷ []

-- its numbers have 64 bits
pub counts_written : (c : Counts) → c.commits < 2 ^ 64 → c.aborts < 2 ^ 64 → c.held < 2 ^ 64 → c.unbegun < 2 ^ 64 → c.messages < 2 ^ 64 → end_line c ≡ ended (counts_text c)
counts_written c k l m n o =
    let commits : decimal c.commits ≡ numeral c.commits = sym (numeral-decimal c.commits k) in
    let aborts : decimal c.aborts ≡ numeral c.aborts = sym (numeral-decimal c.aborts l) in
    let held : decimal c.held ≡ numeral c.held = sym (numeral-decimal c.held m) in
    let unbegun : decimal c.unbegun ≡ numeral c.unbegun = sym (numeral-decimal c.unbegun n) in
    let messages : decimal c.messages ≡ numeral c.messages = sym (numeral-decimal c.messages o) in
    (λ i. ((((((((commits_word ++ commits i) ++ aborts_word) ++ aborts i) ++ held_word) ++ held i) ++ unbegun_word) ++ unbegun i) ++ messages_word) ++ messages i ++ 10 ∷ [])
    ∙ ap (λ xs. xs ++ 10 ∷ []) (counts_row (commits_word ++ numeral c.commits) aborts_word (numeral c.aborts) held_word (numeral c.held) unbegun_word (numeral c.unbegun) messages_word (numeral c.messages))

pub ending_written : (as' : List Answer) (c : Counts) → length as' ≤ 1024 → IsEnding as' c → end_line c ≡ ended (counts_text c)
ending_written as' c few e =
    counts_written c (omega (arith, e.commits, count_by-le-length (λ a. is_commit a.outcome) as')) (omega (arith, e.aborts, count_by-le-length (λ a. not (is_commit a.outcome)) as')) e.held e.unbegun e.messages

-- ---- the whole

pub history_written : (scene : Scene) (as' : List Answer) (c : Counts) → IsHistory scene as' c → history_spelling scene as' c ≡ flat_map ended (history_lines scene as' c)
unfolding history_spelling spelling
history_written scene as' c h =
    let lines : List (List ℕ) = map (spelled_answer scene.keys) as' in
    let tail : flat_map ended (lines ++ counts_text c ∷ []) ≡ flat_map (answer_line scene.keys) as' ++ end_line c =
    flat_map-append ended lines (counts_text c ∷ [])
    ∙ (λ i. sym (answers_written scene as' h.is_scene h.answers_are.each) i ++ (append-nil (ended (counts_text c)) ∙ sym (ending_written as' c h.answers_are.few h.ending)) i) in
    ap (λ xs. flat_map ended (scene_lines scene) ++ xs) (sym tail) ∙ sym (flat_map-append ended (scene_lines scene) (lines ++ counts_text c ∷ []))

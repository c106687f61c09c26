-- The lines of answers and of the end are told apart, and no line feed stands in them.
use Rattle.std.proofs.Common.{List, None, Option, Some, [], ap, append_assoc, arith, get_or, refl, subst, sym, true, ℕ, ◌*◌, ◌++◌, ◌+◌, ◌∙◌, ◌∷◌, ◌≡◌, ◌≤◌}
use Rattle.std.proofs.lemmas.List.{append_cancel_left}
use Rattle.history_reading.proofs.WordsApart.{gets_after, gets_text-feed, gets_text-injective, key_text-free, key_text-injective, name_text-feed, name_text-injective, name_text-space, place_text-feed, place_text-injective, place_text-space, word_unique}
use Rattle.history_reading.specs.Parts.{IsAfterWord}
use Rattle.history_reading.specs.HistoryLines.{Aborts, AnyAnswer, AnyCause, AnyGet, AnyOutcome, ByConflict, ByLate, ByLost, ByWish, Commits, IsForm, IsFormCause, IsFormOutcome, abort_text, answer_text, cause_text, commit_text, conflict_text, counts_text, end_text, fc_text, gets_text, late_text, name_text, numbers_text, place_text}
use Rattle.scene_text.proofs.Spelling.Numerals.{numeral-injective, numeral-without, numeral_first}
use Rattle.scene_text.specs.LineReading.{is_without}
use Rattle.scene_text.specs.LineTexts.{key_text}
use Rattle.scene_text.specs.Numerals.{numeral}
use Rattle.str_base.specs.declared.names.NodeId.{NodeId}
use Rattle.str_base.specs.declared.names.PartId.{PartId}
use Rattle.str_base.specs.declared.names.Ts.{Ts}
use Rattle.str_base.specs.declared.names.TxId.{TxId}
use Rattle.str_model.specs.Lines.{Counts}
use Rattle.str_scene.proofs.Without.{is_without-append, is_without-name, split_unique}
use Rattle.str_scene.specs.SceneLimits.{is_name}

-- ---- causes

key_space : (k : List ℕ × PartId) → is_name k.0 ≡ true → is_without 32 (key_text k.0 k.1) ≡ true
key_space k f = key_text-free 32 k f (is_without-name 32 k.0 refl refl f) refl (numeral-without 32 k.1.0 refl)

key_feed : (k : List ℕ × PartId) → is_name k.0 ≡ true → is_without 10 (key_text k.0 k.1) ≡ true
key_feed k f = key_text-free 10 k f (is_without-name 10 k.0 refl refl f) refl (numeral-without 10 k.1.0 refl)

-- a conflict in its three words
pub conflict_parts : (text a rest b c : List ℕ) (by : TxId) (k : List ℕ × PartId) (n : NodeId) → is_name k.0 ≡ true → text ≡ a ++ 32 ∷ rest → is_without 32 a ≡ true → rest ≡ b ++ 32 ∷ c → is_without 32 b ≡ true →
    text ≡ conflict_text by k n → (a ≡ name_text by) × (b ≡ key_text k.0 k.1) × (c ≡ 97 ∷ 116 ∷ 61 ∷ numeral n.0)
conflict_parts text a rest b c by k n named e f g h t =
    let first : (a ≡ name_text by) × (rest ≡ key_text k.0 k.1 ++ 32 ∷ 97 ∷ 116 ∷ 61 ∷ numeral n.0) =
    split_unique 32 a rest (name_text by) (key_text k.0 k.1 ++ 32 ∷ 97 ∷ 116 ∷ 61 ∷ numeral n.0) f (name_text-space by) (sym e ∙ t) in
    let second : (b ≡ key_text k.0 k.1) × (c ≡ 97 ∷ 116 ∷ 61 ∷ numeral n.0) =
    split_unique 32 b c (key_text k.0 k.1) (97 ∷ 116 ∷ 61 ∷ numeral n.0) h (key_space k named) (sym g ∙ first.1) in
    (first.0, second.0, second.1)

-- a dependency that committed late in its two words
pub late_parts : (text a rest : List ℕ) (by : TxId) (fc : Ts) → text ≡ a ++ 32 ∷ rest → is_without 32 a ≡ true → text ≡ late_text by fc → (a ≡ name_text by) × (rest ≡ 102 ∷ 99 ∷ 61 ∷ numeral fc.0)
late_parts text a rest by fc e f t = split_unique 32 a rest (name_text by) (102 ∷ 99 ∷ 61 ∷ numeral fc.0) f (name_text-space by) (sym e ∙ t)

conflict_text-injective : (b c : TxId) (k l : List ℕ × PartId) (m n : NodeId) → is_name k.0 ≡ true → is_name l.0 ≡ true → conflict_text b k m ≡ conflict_text c l n → ByConflict b k m ≡ ByConflict c l n
conflict_text-injective b c k l m n f g e =
    let parts = conflict_parts (conflict_text b k m) (name_text b) (key_text k.0 k.1 ++ 32 ∷ 97 ∷ 116 ∷ 61 ∷ numeral m.0) (key_text k.0 k.1) (97 ∷ 116 ∷ 61 ∷ numeral m.0) c l n g refl (name_text-space b) refl (key_space k f) e in
    let by : b ≡ c = name_text-injective b c parts.0 in
    let key : k ≡ l = key_text-injective k l f g parts.1 in
    let node : m.0 ≡ n.0 = numeral-injective m.0 n.0 (append_cancel_left (97 ∷ 116 ∷ 61 ∷ []) _ _ parts.2) in
    λ i. ByConflict (by i) (key i) (record { 0 = node i })

late_text-injective : (b c : TxId) (s t : Ts) → late_text b s ≡ late_text c t → ByLate b s ≡ ByLate c t
late_text-injective b c s t e =
    let parts = late_parts (late_text b s) (name_text b) (102 ∷ 99 ∷ 61 ∷ numeral s.0) c t refl (name_text-space b) e in
    let by : b ≡ c = name_text-injective b c parts.0 in
    let time : s.0 ≡ t.0 = numeral-injective s.0 t.0 (append_cancel_left (102 ∷ 99 ∷ 61 ∷ []) _ _ parts.1) in
    λ i. ByLate (by i) (record { 0 = time i })

-- the first two bytes, as one number
abbrev pub first_two : List ℕ → ℕ
first_two bytes = get_or bytes 0 0 * 256 + get_or bytes 1 0

pub cause_text-injective : (b c : AnyCause) → IsFormCause b → IsFormCause c → cause_text b ≡ cause_text c → b ≡ c
cause_text-injective (ByConflict b k m) (ByConflict c l n) f g e = conflict_text-injective b c k l m n f g (append_cancel_left (99 ∷ 111 ∷ 110 ∷ 102 ∷ 108 ∷ 105 ∷ 99 ∷ 116 ∷ 32 ∷ []) _ _ e)
cause_text-injective (ByLost b) (ByLost c) f g e = ap ByLost (name_text-injective b c (append_cancel_left (108 ∷ 111 ∷ 115 ∷ 116 ∷ 32 ∷ []) _ _ e))
cause_text-injective (ByLate b s) (ByLate c t) f g e = late_text-injective b c s t (append_cancel_left (108 ∷ 97 ∷ 116 ∷ 101 ∷ 32 ∷ []) _ _ e)
cause_text-injective ByWish ByWish f g e = refl
cause_text-injective _ _ f g e = absurd (omega (arith, ap first_two e))

pub cause_text-feed : (c : AnyCause) → IsFormCause c → is_without 10 (cause_text c) ≡ true
cause_text-feed (ByConflict by k n) f =
    is_without-append 10 (name_text by) (32 ∷ (key_text k.0 k.1 ++ 32 ∷ 97 ∷ 116 ∷ 61 ∷ numeral n.0)) (name_text-feed by)
    (is_without-append 10 (key_text k.0 k.1) (32 ∷ 97 ∷ 116 ∷ 61 ∷ numeral n.0) (key_feed k f) (numeral-without 10 n.0 refl))
cause_text-feed (ByLost by) f = name_text-feed by
cause_text-feed (ByLate by fc) f = is_without-append 10 (name_text by) (32 ∷ 102 ∷ 99 ∷ 61 ∷ numeral fc.0) (name_text-feed by) (numeral-without 10 fc.0 refl)
cause_text-feed ByWish f = refl

-- ---- final timestamps

pub fc_text-space : (fc : Option Ts) → is_without 32 (fc_text fc) ≡ true
fc_text-space None = refl
fc_text-space (Some fc) = numeral-without 32 fc.0 refl

pub fc_text-feed : (fc : Option Ts) → is_without 10 (fc_text fc) ≡ true
fc_text-feed None = refl
fc_text-feed (Some fc) = numeral-without 10 fc.0 refl

pub fc_text-injective : (s t : Option Ts) → fc_text s ≡ fc_text t → s ≡ t
fc_text-injective None None e = refl
fc_text-injective None (Some t) e = absurd (omega (arith, numeral_first t.0, ap (λ xs. get_or xs 0 0) e))
fc_text-injective (Some s) None e = absurd (omega (arith, numeral_first s.0, ap (λ xs. get_or xs 0 0) e))
fc_text-injective (Some s) (Some t) e = let same : s.0 ≡ t.0 = numeral-injective s.0 t.0 e in λ i. Some (record { 0 = same i })

-- ---- ends

-- a commit in its parts
pub commit_parts : (text r f g : List ℕ) (rs : Ts) (fc : Option Ts) (gets : List AnyGet) → text ≡ 114 ∷ 115 ∷ 61 ∷ (r ++ 32 ∷ 102 ∷ 99 ∷ 61 ∷ (f ++ g)) → is_without 32 r ≡ true → is_without 32 f ≡ true → IsAfterWord g →
    text ≡ commit_text rs fc gets → (r ≡ numeral rs.0) × (f ≡ fc_text fc) × (g ≡ gets_text gets)
commit_parts text r f g rs fc gets e a b w t =
    let all : r ++ 32 ∷ 102 ∷ 99 ∷ 61 ∷ (f ++ g) ≡ numeral rs.0 ++ 32 ∷ 102 ∷ 99 ∷ 61 ∷ (fc_text fc ++ gets_text gets) = append_cancel_left (114 ∷ 115 ∷ 61 ∷ []) _ _ (sym e ∙ t) in
    let first : (r ≡ numeral rs.0) × (102 ∷ 99 ∷ 61 ∷ (f ++ g) ≡ 102 ∷ 99 ∷ 61 ∷ (fc_text fc ++ gets_text gets)) =
    split_unique 32 r (102 ∷ 99 ∷ 61 ∷ (f ++ g)) (numeral rs.0) (102 ∷ 99 ∷ 61 ∷ (fc_text fc ++ gets_text gets)) a (numeral-without 32 rs.0 refl) all in
    let second : (f ≡ fc_text fc) × (g ≡ gets_text gets) = word_unique f (fc_text fc) g (gets_text gets) b (fc_text-space fc) w (gets_after gets) (append_cancel_left (102 ∷ 99 ∷ 61 ∷ []) _ _ first.1) in
    (first.0, second.0, second.1)

-- an abort in its parts
pub abort_parts : (text r c : List ℕ) (rs : Ts) (cause : AnyCause) → text ≡ 114 ∷ 115 ∷ 61 ∷ (r ++ 32 ∷ c) → is_without 32 r ≡ true → text ≡ abort_text rs cause → (r ≡ numeral rs.0) × (c ≡ cause_text cause)
abort_parts text r c rs cause e a t =
    split_unique 32 r c (numeral rs.0) (cause_text cause) a (numeral-without 32 rs.0 refl) (append_cancel_left (114 ∷ 115 ∷ 61 ∷ []) _ _ (sym e ∙ t))

pub time_same : (s t : Ts) → s.0 ≡ t.0 → s ≡ t
time_same s t e = λ i. record { 0 = e i }

pub end_text-injective : (s t : Ts) (o p : AnyOutcome) → IsFormOutcome o → IsFormOutcome p → end_text s o ≡ end_text t p → (s ≡ t) × (o ≡ p)
end_text-injective s t (Commits fc gs) (Commits gc hs) f g e =
    let same : commit_text s fc gs ≡ commit_text t gc hs = append_cancel_left (99 ∷ 111 ∷ 109 ∷ 109 ∷ 105 ∷ 116 ∷ 32 ∷ []) _ _ e in
    let parts = commit_parts (commit_text s fc gs) (numeral s.0) (fc_text fc) (gets_text gs) t gc hs refl (numeral-without 32 s.0 refl) (fc_text-space fc) (gets_after gs) same in
    let time : s ≡ t = time_same s t (numeral-injective s.0 t.0 parts.0) in
    let final : fc ≡ gc = fc_text-injective fc gc parts.1 in
    let gets : gs ≡ hs = gets_text-injective gs hs f g parts.2 in
    (time, λ i. Commits (final i) (gets i))
end_text-injective s t (Aborts c) (Aborts d) f g e =
    let same : abort_text s c ≡ abort_text t d = append_cancel_left (97 ∷ 98 ∷ 111 ∷ 114 ∷ 116 ∷ 32 ∷ []) _ _ e in
    let parts = abort_parts (abort_text s c) (numeral s.0) (cause_text c) t d refl (numeral-without 32 s.0 refl) same in
    (time_same s t (numeral-injective s.0 t.0 parts.0), ap Aborts (cause_text-injective c d f g parts.1))
end_text-injective s t (Commits fc gs) (Aborts d) f g e = absurd (omega (arith, ap (λ xs. get_or xs 0 0) e))
end_text-injective s t (Aborts c) (Commits gc hs) f g e = absurd (omega (arith, ap (λ xs. get_or xs 0 0) e))

pub end_text-feed : (s : Ts) (o : AnyOutcome) → IsFormOutcome o → is_without 10 (end_text s o) ≡ true
end_text-feed s (Commits fc gs) f =
    is_without-append 10 (numeral s.0) (32 ∷ 102 ∷ 99 ∷ 61 ∷ (fc_text fc ++ gets_text gs)) (numeral-without 10 s.0 refl)
    (is_without-append 10 (fc_text fc) (gets_text gs) (fc_text-feed fc) (gets_text-feed gs f))
end_text-feed s (Aborts c) f = is_without-append 10 (numeral s.0) (32 ∷ cause_text c) (numeral-without 10 s.0 refl) (cause_text-feed c f)

-- ---- answers

pub answer_parts : (text n rest p e : List ℕ) (a : AnyAnswer) → text ≡ n ++ 32 ∷ rest → is_without 32 n ≡ true → rest ≡ p ++ 32 ∷ e → is_without 32 p ≡ true → text ≡ answer_text a →
    (n ≡ name_text a.tx) × (p ≡ place_text a.place) × (e ≡ end_text a.rs a.outcome)
answer_parts text n rest p e a h f g k t =
    let first : (n ≡ name_text a.tx) × (rest ≡ place_text a.place ++ 32 ∷ end_text a.rs a.outcome) =
    split_unique 32 n rest (name_text a.tx) (place_text a.place ++ 32 ∷ end_text a.rs a.outcome) f (name_text-space a.tx) (sym h ∙ t) in
    let second : (p ≡ place_text a.place) × (e ≡ end_text a.rs a.outcome) =
    split_unique 32 p e (place_text a.place) (end_text a.rs a.outcome) k (place_text-space a.place) (sym g ∙ first.1) in
    (first.0, second.0, second.1)

pub answer_text-injective : (a b : AnyAnswer) → IsForm a → IsForm b → answer_text a ≡ answer_text b → a ≡ b
answer_text-injective a b f g e =
    let parts = answer_parts (answer_text a) (name_text a.tx) (place_text a.place ++ 32 ∷ end_text a.rs a.outcome) (place_text a.place) (end_text a.rs a.outcome) b
    refl (name_text-space a.tx) refl (place_text-space a.place) e in
    let tx : a.tx ≡ b.tx = name_text-injective a.tx b.tx parts.0 in
    let place : a.place ≡ b.place = place_text-injective a.place b.place parts.1 in
    let end = end_text-injective a.rs b.rs a.outcome b.outcome f g parts.2 in
    λ i. record { tx = tx i; place = place i; rs = end.0 i; outcome = end.1 i }

pub answer_text-feed : (a : AnyAnswer) → IsForm a → is_without 10 (answer_text a) ≡ true
answer_text-feed a f =
    is_without-append 10 (name_text a.tx) (32 ∷ (place_text a.place ++ 32 ∷ end_text a.rs a.outcome)) (name_text-feed a.tx)
    (is_without-append 10 (place_text a.place) (32 ∷ end_text a.rs a.outcome) (place_text-feed a.place) (end_text-feed a.rs a.outcome f))

-- an answer's line begins with a digit
numeral_then : (n : ℕ) (xs : List ℕ) → (48 ≤ get_or (numeral n ++ xs) 0 0) × (get_or (numeral n ++ xs) 0 0 ≤ 57)
numeral_then n xs = by (numeral n) (numeral_first n)
  where
    by : (ds : List ℕ) → (48 ≤ get_or ds 0 0) × (get_or ds 0 0 ≤ 57) → (48 ≤ get_or (ds ++ xs) 0 0) × (get_or (ds ++ xs) 0 0 ≤ 57)
    by [] h = absurd (omega (arith, h.0))
    by (d ∷ ds) h = h

pub answer_first : (a : AnyAnswer) → get_or (answer_text a) 0 0 ≤ 57
answer_first a =
    let rest : List ℕ = 32 ∷ (place_text a.place ++ 32 ∷ end_text a.rs a.outcome) in
    subst (λ xs. get_or xs 0 0 ≤ 57) (sym (append_assoc (numeral a.tx.node.0) (46 ∷ numeral a.tx.seq) rest)) (numeral_then a.tx.node.0 (46 ∷ numeral a.tx.seq ++ rest)).1

-- and is no end line
pub answer_no_counts : (a : AnyAnswer) (c : Counts) → ¬ (answer_text a ≡ counts_text c)
answer_no_counts a c e = omega (arith, answer_first a, ap (λ xs. get_or xs 0 0) e)

-- nor that of a scene
pub answer_no_end : (a : AnyAnswer) → ¬ (answer_text a ≡ 101 ∷ 110 ∷ 100 ∷ [])
answer_no_end a e = omega (arith, answer_first a, ap (λ xs. get_or xs 0 0) e)

pub counts_no_end : (c : Counts) → ¬ (counts_text c ≡ 101 ∷ 110 ∷ 100 ∷ [])
counts_no_end c e = omega (arith, ap (λ xs. get_or xs 3 0) e)

-- ---- end lines

-- a word, a number and a space
pub counted_parts : (word d rest more : List ℕ) (n : ℕ) → word ++ (d ++ 32 ∷ rest) ≡ word ++ (numeral n ++ 32 ∷ more) → is_without 32 d ≡ true → (d ≡ numeral n) × (rest ≡ more)
counted_parts word d rest more n e f = split_unique 32 d rest (numeral n) more f (numeral-without 32 n refl) (append_cancel_left word _ _ e)

pub counted_same : (word rest more : List ℕ) (m n : ℕ) → word ++ (numeral m ++ 32 ∷ rest) ≡ word ++ (numeral n ++ 32 ∷ more) → (m ≡ n) × (rest ≡ more)
counted_same word rest more m n e = let h = counted_parts word (numeral m) rest more n e (numeral-without 32 m refl) in (numeral-injective m n h.0, h.1)

-- what follows each number of an end line
abbrev pub messages_text : Counts → List ℕ
messages_text c = 109 ∷ 101 ∷ 115 ∷ 115 ∷ 97 ∷ 103 ∷ 101 ∷ 115 ∷ 61 ∷ numeral c.messages

abbrev pub unbegun_text : Counts → List ℕ
unbegun_text c = (117 ∷ 110 ∷ 98 ∷ 101 ∷ 103 ∷ 117 ∷ 110 ∷ 61 ∷ []) ++ (numeral c.unbegun ++ 32 ∷ messages_text c)

abbrev pub held_text : Counts → List ℕ
held_text c = (104 ∷ 101 ∷ 108 ∷ 100 ∷ 61 ∷ []) ++ (numeral c.held ++ 32 ∷ unbegun_text c)

abbrev pub aborts_text : Counts → List ℕ
aborts_text c = (97 ∷ 98 ∷ 111 ∷ 114 ∷ 116 ∷ 115 ∷ 61 ∷ []) ++ (numeral c.aborts ++ 32 ∷ held_text c)

pub numbers_in_parts : (c : Counts) → numbers_text c ≡ (99 ∷ 111 ∷ 109 ∷ 109 ∷ 105 ∷ 116 ∷ 115 ∷ 61 ∷ []) ++ (numeral c.commits ++ 32 ∷ aborts_text c)
numbers_in_parts c = refl

pub numbers_text-injective : (c d : Counts) → numbers_text c ≡ numbers_text d → c ≡ d
numbers_text-injective c d e =
    let commits = counted_same (99 ∷ 111 ∷ 109 ∷ 109 ∷ 105 ∷ 116 ∷ 115 ∷ 61 ∷ []) (aborts_text c) (aborts_text d) c.commits d.commits e in
    let aborts = counted_same (97 ∷ 98 ∷ 111 ∷ 114 ∷ 116 ∷ 115 ∷ 61 ∷ []) (held_text c) (held_text d) c.aborts d.aborts commits.1 in
    let held = counted_same (104 ∷ 101 ∷ 108 ∷ 100 ∷ 61 ∷ []) (unbegun_text c) (unbegun_text d) c.held d.held aborts.1 in
    let unbegun = counted_same (117 ∷ 110 ∷ 98 ∷ 101 ∷ 103 ∷ 117 ∷ 110 ∷ 61 ∷ []) (messages_text c) (messages_text d) c.unbegun d.unbegun held.1 in
    let messages : c.messages ≡ d.messages = numeral-injective c.messages d.messages (append_cancel_left (109 ∷ 101 ∷ 115 ∷ 115 ∷ 97 ∷ 103 ∷ 101 ∷ 115 ∷ 61 ∷ []) _ _ unbegun.1) in
    λ i. record { commits = commits.0 i; aborts = aborts.0 i; held = held.0 i; unbegun = unbegun.0 i; messages = messages i }

pub counts_text-injective : (c d : Counts) → counts_text c ≡ counts_text d → c ≡ d
counts_text-injective c d e = numbers_text-injective c d (append_cancel_left (101 ∷ 110 ∷ 100 ∷ 32 ∷ []) _ _ e)

numeral_feed : (n : ℕ) (rest : List ℕ) → is_without 10 rest ≡ true → is_without 10 (numeral n ++ rest) ≡ true
numeral_feed n rest f = is_without-append 10 (numeral n) rest (numeral-without 10 n refl) f

pub counts_text-feed : (c : Counts) → is_without 10 (counts_text c) ≡ true
counts_text-feed c =
    let messages : is_without 10 (messages_text c) ≡ true = numeral-without 10 c.messages refl in
    let unbegun : is_without 10 (unbegun_text c) ≡ true = numeral_feed c.unbegun (32 ∷ messages_text c) messages in
    let held : is_without 10 (held_text c) ≡ true = numeral_feed c.held (32 ∷ unbegun_text c) unbegun in
    let aborts : is_without 10 (aborts_text c) ≡ true = numeral_feed c.aborts (32 ∷ held_text c) held in
    numeral_feed c.commits (32 ∷ aborts_text c) aborts

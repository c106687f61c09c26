-- A text has a first bad line, or is that of one scene and one list of answers.
use Rattle.std.proofs.Common.{List, [], drop, flat_map, inl, inr, refl, subst, sym, take, ℕ, ◌++◌, ◌∙◌, ◌∷◌, ◌≡◌, true}
use Rattle.std.proofs.lemmas.Grind.{flat_map-append}
use Rattle.std.proofs.lemmas.List.{take-append-drop}
use Rattle.history_reading.proofs.AnswersApart.{answer_no_counts, answer_text-feed, counts_text-feed}
use Rattle.history_reading.proofs.BadScenes.{split_append, split_lines}
use Rattle.history_reading.proofs.HistoryStarts.{tail_lines}
use Rattle.history_reading.proofs.LinesWritten.{history_written}
use Rattle.history_reading.proofs.SceneEnds.{same_scene}
use Rattle.history_reading.proofs.TypedAnswers.{answer_form, spelled_answer-injective}
use Rattle.history_reading.specs.FirstBad.{FirstBad, IsBadFor, IsStart, IsWhole}
use Rattle.history_reading.specs.Histories.{IsHistory, IsHistoryText, OneHistory, history_lines}
use Rattle.history_reading.specs.HistoryLines.{any_answer, counts_text, spelled_answer}
use Rattle.history_reading.specs.HistoryRanges.{IsOfScene}
use Rattle.scene_text.proofs.FirstBad.FirstBadLaws.{scene_split}
use Rattle.scene_text.proofs.Spelling.LinesSplit.{one_split}
use Rattle.scene_text.specs.FirstBad.{IsSplit}
use Rattle.scene_text.specs.LineReading.{is_without}
use Rattle.str_model.specs.Lines.{Counts}
use Rattle.str_model.specs.declared.messages.Answer.{Answer}
use Rattle.str_scene.specs.Lists.{Each}
use Rattle.str_scene.specs.SceneLimits.{IsScene}
use Rattle.str_scene.specs.Scenes.{Scene}
use Rattle.str_scene.specs.Spelling.{ended, scene_lines, spelling}
use Rattle.str_scene.specs.declared.faults.Why.{Why}
use Rattle.str_scene.specs.declared.faults.Why.TheVariants.{Count, Cut, Form, Range}

-- no line feed in the lines of answers and of the end
tail_feed : (scene : Scene) (as' : List Answer) (c : Counts) → IsScene scene → Each (IsOfScene scene) as' → Each (λ line. is_without 10 line ≡ true) (tail_lines scene as' c)
tail_feed scene [] c s k = (counts_text-feed c, tt)
tail_feed scene (a ∷ as') c s k = (answer_text-feed (any_answer scene.keys a) (answer_form scene s a k.0), tail_feed scene as' c s k.1)

-- the text of a history is split into its lines
pub history_split : (scene : Scene) (as' : List Answer) (c : Counts) → IsHistory scene as' c → IsSplit (flat_map ended (history_lines scene as' c)) (history_lines scene as' c) []
unfolding spelling
history_split scene as' c h =
    let lines : List (List ℕ) = tail_lines scene as' c in
    subst (λ xs. IsSplit xs (scene_lines scene ++ lines) []) (sym (flat_map-append ended (scene_lines scene) lines))
    (split_append (spelling scene) (flat_map ended lines) (scene_lines scene) lines [] (scene_split scene h.is_scene) (split_lines lines (tail_feed scene as' c h.is_scene h.answers_are.each)))

text_split : (bytes : List ℕ) (scene : Scene) (as' : List Answer) (h : IsHistoryText bytes scene as') → IsSplit bytes (history_lines scene as' h.counts) []
text_split bytes scene as' h =
    subst (λ xs. IsSplit xs (history_lines scene as' h.counts) []) (sym (h.spelled ∙ history_written scene as' h.counts h.is_history)) (history_split scene as' h.counts h.is_history)

-- ---- of one scene and one list of answers

same_answers : (scene : Scene) → IsScene scene → (as' bs : List Answer) (c d : Counts) → Each (IsOfScene scene) as' → Each (IsOfScene scene) bs → tail_lines scene as' c ≡ tail_lines scene bs d → as' ≡ bs
same_answers scene s [] [] c d k l e = refl
same_answers scene s [] (b ∷ bs) c d k l e = let first : spelled_answer scene.keys b ≡ counts_text c = cc in absurd (answer_no_counts (any_answer scene.keys b) c first)
same_answers scene s (a ∷ as') [] c d k l e = let first : spelled_answer scene.keys a ≡ counts_text d = cc in absurd (answer_no_counts (any_answer scene.keys a) d first)
same_answers scene s (a ∷ as') (b ∷ bs) c d k l e =
    let one : spelled_answer scene.keys a ≡ spelled_answer scene.keys b = cc in
    let more : tail_lines scene as' c ≡ tail_lines scene bs d = cc in
    let first : a ≡ b = spelled_answer-injective scene s a b k.0 l.0 one in
    let rest : as' ≡ bs = same_answers scene s as' bs c d k.1 l.1 more in
    λ i. first i ∷ rest i

pub one_history : OneHistory
one_history bytes s t a b h k =
    let lines : history_lines s a h.counts ≡ history_lines t b k.counts = (one_split bytes (history_lines s a h.counts) (history_lines t b k.counts) [] [] (text_split bytes s a h) (text_split bytes t b k)).0 in
    let both = same_scene s t (tail_lines s a h.counts) (tail_lines t b k.counts) h.is_history.is_scene k.is_history.is_scene lines in
    let each : Each (IsOfScene t) a = subst (λ x. Each (IsOfScene x) a) both.0 h.is_history.answers_are.each in
    let tails : tail_lines t a h.counts ≡ tail_lines t b k.counts = subst (λ x. tail_lines x a h.counts ≡ tail_lines t b k.counts) both.0 both.1 in
    (both.0, same_answers t k.is_history.is_scene a b h.counts k.counts each k.is_history.answers_are.each tails)

-- ---- no first bad line

first_of_whole : (lines : List (List ℕ)) (n : ℕ) → IsWhole lines → IsStart (take n lines)
first_of_whole lines n w = record { scene = w.scene; answers = w.answers; counts = w.counts; rest = drop n lines; is_history = w.is_history; text = w.text ∙ sym (take-append-drop n lines) }

whole_no_bad : (lines : List (List ℕ)) (n : ℕ) (why : Why) → IsWhole lines → IsBadFor lines [] n why → ⊥
whole_no_bad lines n Cut w b = elim b.cut [ inl e ↦ e refl | inr e ↦ e w ]
whole_no_bad lines n Form w b = b.0.bad (first_of_whole lines n w)
whole_no_bad lines n Range w b = b.0.bad (first_of_whole lines n w)
whole_no_bad lines n Count w b = b.0.bad (first_of_whole lines n w)

pub first_bad_no_history : (bytes : List ℕ) (line : ℕ) (why : Why) (scene : Scene) (answers : List Answer) → FirstBad bytes line why → ¬ IsHistoryText bytes scene answers
first_bad_no_history bytes line why scene answers b h =
    let lines : List (List ℕ) = history_lines scene answers h.counts in
    let same = one_split bytes b.lines lines b.tail [] b.split (text_split bytes scene answers h) in
    let bad : IsBadFor lines [] line why = subst (λ tail. IsBadFor lines tail line why) same.1 (subst (λ ls. IsBadFor ls b.tail line why) same.0 b.bad) in
    whole_no_bad lines line why (record { scene = scene; answers = answers; counts = h.counts; is_history = h.is_history; text = refl }) bad

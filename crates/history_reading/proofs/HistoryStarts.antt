-- The first lines of a history, where those of its scene are known.
use Rattle.std.proofs.Common.{List, [], ap, append_assoc, arith, inl, inr, length, map, refl, subst, sym, ℕ, ◌++◌, ◌∙◌, ◌∷◌, ◌≡◌, ◌≤◌}
use Rattle.history_reading.proofs.AnswersApart.{answer_no_counts}
use Rattle.history_reading.proofs.SceneEnds.{formed_ends, once_then, ranged_ends, same_scene, scene_once}
use Rattle.history_reading.proofs.TypedAnswers.{spelled_answer-injective}
use Rattle.history_reading.specs.FirstBad.{IsFormed, IsInRange, IsStart}
use Rattle.history_reading.specs.Histories.{AreAnswers, IsEnding}
use Rattle.history_reading.specs.HistoryLines.{AnyAnswer, IsForm, answer_text, any_answer, counts_text, spelled_answer}
use Rattle.history_reading.specs.HistoryRanges.{IsOfScene}
use Rattle.scene_text.specs.FirstBad.{IsFormed as IsFormedScene, IsInRange as IsInRangeScene}
use Rattle.str_model.specs.Lines.{Counts}
use Rattle.str_model.specs.declared.messages.Answer.{Answer}
use Rattle.str_scene.specs.Lists.{Each}
use Rattle.str_scene.specs.SceneLimits.{IsScene}
use Rattle.str_scene.specs.Scenes.{Scene}
use Rattle.str_scene.specs.Spelling.{scene_lines}

-- the lines of answers and of the end line
abbrev pub tail_lines : Scene → List Answer → Counts → List (List ℕ)
tail_lines scene as' c = map (spelled_answer scene.keys) as' ++ counts_text c ∷ []

-- ---- after the lines of a scene

-- the first lines of the answers of a history of the scene
pub record StartsAfter (scene : Scene) (lines : List (List ℕ)) : Type 0 where
  pub answers : List Answer
  pub counts : Counts
  pub rest : List (List ℕ)
  pub are : AreAnswers scene answers
  pub ending : IsEnding answers counts
  pub text : tail_lines scene answers counts ≡ lines ++ rest

pub starts_after : (scene : Scene) (lines : List (List ℕ)) → IsScene scene → IsStart (scene_lines scene ++ lines) → StartsAfter scene lines
starts_after scene lines s t =
    let h = same_scene t.scene scene (tail_lines t.scene t.answers t.counts) (lines ++ t.rest) t.is_history.is_scene s (t.text ∙ append_assoc (scene_lines scene) lines t.rest) in
    record {
      answers = t.answers;
      counts = t.counts;
      rest = t.rest;
      are = subst (λ x. AreAnswers x t.answers) h.0 t.is_history.answers_are;
      ending = t.is_history.ending;
      text = subst (λ x. tail_lines x t.answers t.counts ≡ lines ++ t.rest) h.0 h.1;
    }

pub after_starts : (scene : Scene) (lines : List (List ℕ)) → IsScene scene → StartsAfter scene lines → IsStart (scene_lines scene ++ lines)
after_starts scene lines s t = record {
  scene = scene;
  answers = t.answers;
  counts = t.counts;
  rest = t.rest;
  is_history = record { is_scene = s; answers_are = t.are; ending = t.ending };
  text = ap (λ xs. scene_lines scene ++ xs) t.text ∙ sym (append_assoc (scene_lines scene) lines t.rest);
}

-- answers and end lines of the form
pub record FormedAfter (lines : List (List ℕ)) : Type 0 where
  pub answers : List AnyAnswer
  pub ends : List Counts
  pub forms : Each IsForm answers
  pub one_end : length ends ≤ 1
  pub text : map answer_text answers ++ map counts_text ends ≡ lines

pub formed_after : (scene : Scene) (line : List ℕ) (lines : List (List ℕ)) → IsScene scene → IsFormed (scene_lines scene ++ line ∷ lines) → FormedAfter (line ∷ lines)
formed_after scene line lines s (inl k) =
    let o = scene_once scene s in
    absurd (formed_ends o.before line lines (subst IsFormedScene (once_then (scene_lines scene) o (line ∷ lines)) k))
formed_after scene line lines s (inr k) =
    let h = same_scene k.scene scene (map answer_text k.answers ++ map counts_text k.ends) (line ∷ lines) k.is_scene s k.text in
    record { answers = k.answers; ends = k.ends; forms = k.forms; one_end = k.one_end; text = h.1 }

pub after_formed : (scene : Scene) (lines : List (List ℕ)) → IsScene scene → FormedAfter lines → IsFormed (scene_lines scene ++ lines)
after_formed scene lines s k = inr (record {
  scene = scene;
  is_scene = s;
  answers = k.answers;
  ends = k.ends;
  forms = k.forms;
  one_end = k.one_end;
  text = ap (λ xs. scene_lines scene ++ xs) k.text;
})

-- the first lines of answers of the scene, of whatever number
pub record RangedAfter (scene : Scene) (lines : List (List ℕ)) : Type 0 where
  pub answers : List Answer
  pub counts : Counts
  pub rest : List (List ℕ)
  pub each : Each (IsOfScene scene) answers
  pub ending : IsEnding answers counts
  pub text : tail_lines scene answers counts ≡ lines ++ rest

pub ranged_after : (scene : Scene) (line : List ℕ) (lines : List (List ℕ)) → IsScene scene → IsInRange (scene_lines scene ++ line ∷ lines) → RangedAfter scene (line ∷ lines)
ranged_after scene line lines s (inl k) =
    let o = scene_once scene s in
    absurd (ranged_ends o.before line lines o.none (subst IsInRangeScene (once_then (scene_lines scene) o (line ∷ lines)) k))
ranged_after scene line lines s (inr k) =
    let h = same_scene k.scene scene (tail_lines k.scene k.answers k.counts) ((line ∷ lines) ++ k.rest) k.is_scene s (k.text ∙ append_assoc (scene_lines scene) (line ∷ lines) k.rest) in
    record {
      answers = k.answers;
      counts = k.counts;
      rest = k.rest;
      each = subst (λ x. Each (IsOfScene x) k.answers) h.0 k.each;
      ending = k.ending;
      text = subst (λ x. tail_lines x k.answers k.counts ≡ (line ∷ lines) ++ k.rest) h.0 h.1;
    }

pub after_ranged : (scene : Scene) (lines : List (List ℕ)) → IsScene scene → RangedAfter scene lines → IsInRange (scene_lines scene ++ lines)
after_ranged scene lines s k = inr (record {
  scene = scene;
  is_scene = s;
  answers = k.answers;
  counts = k.counts;
  rest = k.rest;
  each = k.each;
  ending = k.ending;
  text = ap (λ xs. scene_lines scene ++ xs) k.text ∙ sym (append_assoc (scene_lines scene) lines k.rest);
})

abbrev pub ranged_of_start : (scene : Scene) (lines : List (List ℕ)) → StartsAfter scene lines → RangedAfter scene lines
ranged_of_start scene lines t = record { answers = t.answers; counts = t.counts; rest = t.rest; each = t.are.each; ending = t.ending; text = t.text }

-- ---- the line after some answers

-- it is the end line, or the line of one more answer
pub data NextLine (scene : Scene) (known as' : List Answer) (c : Counts) (x : List ℕ) (xs : List (List ℕ)) : Type 0 where
  IsLast : as' ≡ known → x ≡ counts_text c → xs ≡ [] → NextLine scene known as' c x xs
  IsOne : (a : Answer) (more : List Answer) → as' ≡ known ++ a ∷ more → x ≡ spelled_answer scene.keys a → IsOfScene scene a → NextLine scene known as' c x xs

pub next_line : (scene : Scene) → IsScene scene → (known as' : List Answer) (c : Counts) (x : List ℕ) (xs : List (List ℕ)) → Each (IsOfScene scene) known → Each (IsOfScene scene) as' →
    map (spelled_answer scene.keys) known ++ x ∷ xs ≡ tail_lines scene as' c → NextLine scene known as' c x xs
next_line scene s [] [] c x xs k h e = let last : x ≡ counts_text c = cc in let none : xs ≡ [] = cc in IsLast refl last none
next_line scene s [] (a ∷ as') c x xs k h e = let one : x ≡ spelled_answer scene.keys a = cc in IsOne a as' refl one h.0
next_line scene s (b ∷ known) [] c x xs k h e = let last : spelled_answer scene.keys b ≡ counts_text c = cc in absurd (answer_no_counts (any_answer scene.keys b) c last)
next_line scene s (b ∷ known) (a ∷ as') c x xs k h e =
    let one : spelled_answer scene.keys b ≡ spelled_answer scene.keys a = cc in
    let more : map (spelled_answer scene.keys) known ++ x ∷ xs ≡ tail_lines scene as' c = cc in
    let same : a ≡ b = sym (spelled_answer-injective scene s b a k.0 h.0 one) in
    step same (next_line scene s known as' c x xs k.1 h.1 more)
  where
    step : a ≡ b → NextLine scene known as' c x xs → NextLine scene (b ∷ known) (a ∷ as') c x xs
    step q (IsLast p l n) = IsLast (λ i. q i ∷ p i) l n
    step q (IsOne d more p l o) = IsOne d more (λ i. q i ∷ p i) l o

-- of lines of the form it is an end line, after which none comes, or an answer's
pub data NextForm (x : List ℕ) (xs : List (List ℕ)) : Type 0 where
  IsLastForm : (c : Counts) → x ≡ counts_text c → xs ≡ [] → NextForm x xs
  IsOneForm : (a : AnyAnswer) → IsForm a → x ≡ answer_text a → NextForm x xs

pub next_form : (known as' : List AnyAnswer) (ends : List Counts) (x : List ℕ) (xs : List (List ℕ)) → Each IsForm as' → length ends ≤ 1 →
    map answer_text known ++ x ∷ xs ≡ map answer_text as' ++ map counts_text ends → NextForm x xs
next_form [] [] [] x xs f l e = absurd (cc)
next_form [] [] (c ∷ []) x xs f l e = let last : x ≡ counts_text c = cc in let none : xs ≡ [] = cc in IsLastForm c last none
next_form [] [] (c ∷ d ∷ ends) x xs f l e = absurd (omega arith)
next_form [] (a ∷ as') ends x xs f l e = let one : x ≡ answer_text a = cc in IsOneForm a f.0 one
next_form (b ∷ known) [] [] x xs f l e = absurd (cc)
next_form (b ∷ known) [] (c ∷ ends) x xs f l e = let last : answer_text b ≡ counts_text c = cc in absurd (answer_no_counts b c last)
next_form (b ∷ known) (a ∷ as') ends x xs f l e =
    let more : map answer_text known ++ x ∷ xs ≡ map answer_text as' ++ map counts_text ends = cc in
    next_form known as' ends x xs f.1 l more

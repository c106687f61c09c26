-- The first line that is refused after a scene's text is the first bad line, and bad for that reason.
use Rattle.std.proofs.Common.{List, [], ap, append-nil, append_assoc, arith, drop, flat_map, inl, inr, length, length-append, length-drop, map, refl, subst, sym, take, true, ℕ, ◌++◌, ◌+◌, ◌<◌, ◌∙◌, ◌∷◌, ◌≡◌, ◌≤◌, ◌⊎◌}
use Rattle.std.proofs.Math.Seq.{take-append_seam}
use Rattle.std.proofs.lemmas.List.{length-map, map-append, take-append-drop}
use Rattle.history_reading.proofs.AnswersApart.{answer_no_counts, answer_text-feed, answer_text-injective, counts_text-feed, counts_text-injective}
use Rattle.history_reading.proofs.BadScenes.{split_append, split_lines}
use Rattle.history_reading.proofs.HistoryStarts.{FormedAfter, IsLast, IsLastForm, IsOne, IsOneForm, NextForm, NextLine, RangedAfter, StartsAfter, after_formed, after_ranged, after_starts, formed_after, next_form, next_line, ranged_after, ranged_of_start, starts_after, tail_lines}
use Rattle.history_reading.proofs.SceneEnds.{same_scene}
use Rattle.history_reading.proofs.TypedAnswers.{answer_form, answers_form, spelled_answer-injective}
use Rattle.history_reading.specs.FirstBad.{FirstBad, IsBadFor, IsFirstBadLine, IsFormed, IsInRange, IsStart}
use Rattle.history_reading.specs.Histories.{AreAnswers, HasFewGets, IsEnding, aborts_in, commits_in, gets_of}
use Rattle.history_reading.specs.HistoryLines.{AnyAnswer, IsForm, answer_text, any_answer, counts_text, spelled_answer}
use Rattle.history_reading.specs.HistoryRanges.{IsOfScene}
use Rattle.history_reading.specs.Parts.{SpellsAnswer, SpellsNoAnswer, SpellsWideAnswer}
use Rattle.history_reading.specs.Reading.{AreRead, IsOneMore, SpellsNoCounts, SpellsWideCounts}
use Rattle.scene_text.proofs.FirstBad.FirstBadLaws.{scene_split}
use Rattle.scene_text.proofs.Spelling.LinesSplit.{split, split_more, split_none}
use Rattle.scene_text.specs.FirstBad.{IsSplit}
use Rattle.scene_text.specs.LineReading.{is_without}
use Rattle.str_base.specs.declared.limits.TheConstants.{OPERATIONS, TRANSACTIONS}
use Rattle.str_model.specs.Lines.{Counts}
use Rattle.str_model.specs.declared.messages.Answer.{Answer}
use Rattle.str_scene.proofs.Each.{each_append}
use Rattle.str_scene.specs.Lists.{Each}
use Rattle.str_scene.specs.SceneLimits.{IsScene}
use Rattle.str_scene.specs.Scenes.{Scene}
use Rattle.str_scene.specs.Spelling.{ended, scene_lines, spelling}
use Rattle.str_scene.specs.declared.faults.Why.{Why}
use Rattle.str_scene.specs.declared.faults.Why.TheVariants.{Count, Cut, Form, Range}

-- ---- the lines of answers

-- their texts
abbrev pub texts : Scene → List Answer → List (List ℕ)
texts scene as' = map (spelled_answer scene.keys) as'

texts_any : (scene : Scene) (as' : List Answer) → map answer_text (map (any_answer scene.keys) as') ≡ texts scene as'
texts_any scene [] = refl
texts_any scene (a ∷ as') = ap (λ xs. spelled_answer scene.keys a ∷ xs) (texts_any scene as')

-- the end line of so many commits and aborts
abbrev pub counts_of : List Answer → Counts
counts_of as' = record { commits = commits_in as'; aborts = aborts_in as'; held = 0; unbegun = 0; messages = 0 }

pub counts_are : (as' : List Answer) → IsEnding as' (counts_of as')
counts_are as' = record { commits = refl; aborts = refl; held = omega arith; unbegun = omega arith; messages = omega arith }

-- an element of each
each_middle : {X : Type 0} (P : X → Type 0) (xs ys : List X) (x : X) → Each P (xs ++ x ∷ ys) → P x
each_middle P [] ys x h = h.0
each_middle P (z ∷ xs) ys x h = each_middle P xs ys x h.1

-- ---- what follows the scene's lines starts, is of the form and is in range

-- after the answers and at most one end line
pub starts : (scene : Scene) (as' : List Answer) (ends : List Counts) → AreAnswers scene as' → Each (IsEnding as') ends → length ends ≤ 1 → StartsAfter scene (texts scene as' ++ map counts_text ends)
starts scene as' [] a e l = record {
  answers = as';
  counts = counts_of as';
  rest = counts_text (counts_of as') ∷ [];
  are = a;
  ending = counts_are as';
  text = ap (λ xs. xs ++ counts_text (counts_of as') ∷ []) (sym (append-nil (texts scene as')));
}
starts scene as' (c ∷ []) a e l = record { answers = as'; counts = c; rest = []; are = a; ending = e.0; text = sym (append-nil (texts scene as' ++ counts_text c ∷ [])) }
starts scene as' (c ∷ d ∷ ends) a e l = absurd (omega arith)

-- the line after the answers, from what follows
after : (scene : Scene) (as' : List Answer) (line : List ℕ) (t : RangedAfter scene (texts scene as' ++ line ∷ [])) → IsScene scene → Each (IsOfScene scene) as' → NextLine scene as' t.answers t.counts line t.rest
after scene as' line t s k = next_line scene s as' t.answers t.counts line t.rest k t.each (sym (t.text ∙ append_assoc (texts scene as') (line ∷ []) t.rest))

-- a line of no form
pub none_starts : (scene : Scene) (as' : List Answer) (line : List ℕ) → IsScene scene → Each (IsOfScene scene) as' → SpellsNoAnswer line → SpellsNoCounts line → ¬ StartsAfter scene (texts scene as' ++ line ∷ [])
none_starts scene as' line s k n m t = by (after scene as' line (ranged_of_start scene _ t) s k)
  where
    by : NextLine scene as' t.answers t.counts line t.rest → ⊥
    by (IsLast p l x) = m t.counts l
    by (IsOne a more p l o) = n (any_answer scene.keys a) (answer_form scene s a o) l

pub none_formed : (scene : Scene) (as' : List Answer) (line : List ℕ) → SpellsNoAnswer line → SpellsNoCounts line → ¬ FormedAfter (texts scene as' ++ line ∷ [])
none_formed scene as' line n m t =
    by (next_form (map (any_answer scene.keys) as') t.answers t.ends line [] t.forms t.one_end (ap (λ xs. xs ++ line ∷ []) (texts_any scene as') ∙ sym t.text))
  where
    by : NextForm line [] → ⊥
    by (IsLastForm c l x) = m c l
    by (IsOneForm a f l) = n a f l

-- an answer that names what the scene does not have
pub wide_ranged : (scene : Scene) (as' : List Answer) (line : List ℕ) → IsScene scene → Each (IsOfScene scene) as' → SpellsWideAnswer scene line → ¬ RangedAfter scene (texts scene as' ++ line ∷ [])
wide_ranged scene as' line s k w t = by (after scene as' line t s k)
  where
    by : NextLine scene as' t.answers t.counts line t.rest → ⊥
    by (IsLast p l x) = answer_no_counts w.answer t.counts (sym w.text_is ∙ l)
    by (IsOne a more p l o) =
        w.wide a o (answer_text-injective (any_answer scene.keys a) w.answer (answer_form scene s a o) w.form (sym l ∙ w.text_is))

-- one more answer of the form
pub answer_formed : (scene : Scene) (as' : List Answer) (line : List ℕ) (a : AnyAnswer) → IsScene scene → Each (IsOfScene scene) as' → IsForm a → line ≡ answer_text a → FormedAfter (texts scene as' ++ line ∷ [])
answer_formed scene as' line a s k f e = record {
  answers = map (any_answer scene.keys) as' ++ a ∷ [];
  ends = [];
  forms = each_append IsForm (map (any_answer scene.keys) as') (a ∷ []) (answers_form scene s as' k) (f, tt);
  one_end = omega arith;
  text =
      append-nil (map answer_text (map (any_answer scene.keys) as' ++ a ∷ [])) ∙ (map-append answer_text (map (any_answer scene.keys) as') (a ∷ [])
      ∙ (λ i. texts_any scene as' i ++ sym e i ∷ []));
}

-- one more answer of the scene
pub answer_ranged : (scene : Scene) (as' : List Answer) (line : List ℕ) (a : Answer) → Each (IsOfScene scene) as' → SpellsAnswer scene line a → RangedAfter scene (texts scene as' ++ line ∷ [])
answer_ranged scene as' line a k w = record {
  answers = as' ++ a ∷ [];
  counts = counts_of (as' ++ a ∷ []);
  rest = counts_text (counts_of (as' ++ a ∷ [])) ∷ [];
  each = each_append (IsOfScene scene) as' (a ∷ []) k (w.ranged, tt);
  ending = counts_are (as' ++ a ∷ []);
  text = ap (λ xs. xs ++ counts_text (counts_of (as' ++ a ∷ [])) ∷ []) (map-append (spelled_answer scene.keys) as' (a ∷ []) ∙ (λ i. texts scene as' ++ sym w.text_is i ∷ []));
}

-- for which there is no room
pub full_starts : (scene : Scene) (as' : List Answer) (line : List ℕ) → IsScene scene → Each (IsOfScene scene) as' → IsOneMore scene line as' → ¬ StartsAfter scene (texts scene as' ++ line ∷ [])
full_starts scene as' line s k w t = by (after scene as' line (ranged_of_start scene _ t) s k)
  where
    by_full : (b : Answer) (more : List Answer) → t.answers ≡ as' ++ b ∷ more → w.answer ≡ b → (OPERATIONS < gets_of w.answer.outcome) ⊎ (TRANSACTIONS ≤ length as') → ⊥
    by_full b more p q (inl many) =
        let few : HasFewGets b = each_middle HasFewGets as' more b (subst (Each HasFewGets) p t.are.few_gets) in
        let long : OPERATIONS < gets_of b.outcome = subst (λ x. OPERATIONS < gets_of x.outcome) q many in
        omega (arith, few, long)
    by_full b more p q (inr many) = omega (arith, t.are.few, ap length p, length-append as' (b ∷ more))

    by : NextLine scene as' t.answers t.counts line t.rest → ⊥
    by (IsLast p l x) = answer_no_counts (any_answer scene.keys w.answer) t.counts (sym w.spells.text_is ∙ l)
    by (IsOne b more p l o) = by_full b more p (spelled_answer-injective scene s w.answer b w.spells.ranged o (sym w.spells.text_is ∙ l)) w.full

-- an end line that does not count the answers
pub counts_ranged : (scene : Scene) (as' : List Answer) (line : List ℕ) → IsScene scene → Each (IsOfScene scene) as' → SpellsWideCounts as' line → ¬ RangedAfter scene (texts scene as' ++ line ∷ [])
counts_ranged scene as' line s k w t = by (after scene as' line t s k)
  where
    by : NextLine scene as' t.answers t.counts line t.rest → ⊥
    by (IsLast p l x) =
        let same : t.counts ≡ w.counts = counts_text-injective t.counts w.counts (sym l ∙ w.text_is) in
        w.wide (subst (IsEnding as') same (subst (λ xs. IsEnding xs t.counts) p t.ending))
    by (IsOne a more p l o) = answer_no_counts (any_answer scene.keys a) w.counts (sym l ∙ w.text_is)

pub counts_formed : (scene : Scene) (as' : List Answer) (line : List ℕ) (c : Counts) → IsScene scene → Each (IsOfScene scene) as' → line ≡ counts_text c → FormedAfter (texts scene as' ++ line ∷ [])
counts_formed scene as' line c s k e = record {
  answers = map (any_answer scene.keys) as';
  ends = c ∷ [];
  forms = answers_form scene s as' k;
  one_end = omega arith;
  text = λ i. texts_any scene as' i ++ sym e i ∷ [];
}

-- any line after the end line
pub ended_starts : (scene : Scene) (as' : List Answer) (c : Counts) (line : List ℕ) → IsScene scene → Each (IsOfScene scene) as' → ¬ StartsAfter scene (texts scene as' ++ counts_text c ∷ line ∷ [])
ended_starts scene as' c line s k t =
    by (next_line scene s as' t.answers t.counts (counts_text c) (line ∷ t.rest) k t.are.each (sym (t.text ∙ append_assoc (texts scene as') (counts_text c ∷ line ∷ []) t.rest)))
  where
    by : NextLine scene as' t.answers t.counts (counts_text c) (line ∷ t.rest) → ⊥
    by (IsLast p l x) = absurd (cc)
    by (IsOne a more p l o) = answer_no_counts (any_answer scene.keys a) c (sym l)

pub ended_formed : (scene : Scene) (as' : List Answer) (c : Counts) (line : List ℕ) → ¬ FormedAfter (texts scene as' ++ counts_text c ∷ line ∷ [])
ended_formed scene as' c line t =
    by (next_form (map (any_answer scene.keys) as') t.answers t.ends (counts_text c) (line ∷ []) t.forms t.one_end (ap (λ xs. xs ++ counts_text c ∷ line ∷ []) (texts_any scene as') ∙ sym t.text))
  where
    by : NextForm (counts_text c) (line ∷ []) → ⊥
    by (IsLastForm d l x) = absurd (cc)
    by (IsOneForm a f l) = answer_no_counts a c (sym l)

-- ---- the first bad line

-- why
abbrev pub Reason : Scene → List (List ℕ) → Why → Type 0
Reason scene lines Cut = ⊥
Reason scene lines Form = ¬ FormedAfter lines
Reason scene lines Range = FormedAfter lines × (¬ RangedAfter scene lines)
Reason scene lines Count = FormedAfter lines × RangedAfter scene lines

-- what is known of the line after some others
pub record BadNext (scene : Scene) (lines : List (List ℕ)) (line : List ℕ) (why : Why) : Type 0 where
  pub none : ¬ StartsAfter scene (lines ++ line ∷ [])
  pub reason : Reason scene (lines ++ line ∷ []) why

-- a list with one more is not empty
first_of : (lines : List (List ℕ)) (line : List ℕ) → (x : List ℕ) × (xs : List (List ℕ)) × (lines ++ line ∷ [] ≡ x ∷ xs)
first_of [] line = (line, [], refl)
first_of (x ∷ lines) line = (x, lines ++ line ∷ [], refl)

-- the line is bad
bad_next : (scene : Scene) (lines more : List (List ℕ)) (line tail : List ℕ) (why : Why) → IsScene scene → StartsAfter scene lines → BadNext scene lines line why →
    IsBadFor ((scene_lines scene ++ lines) ++ line ∷ more) tail (length (scene_lines scene ++ lines) + 1) why
bad_next scene lines more line tail why s t b = by why b.reason
  where
    before : List (List ℕ)
    before = scene_lines scene ++ lines

    whole : (scene_lines scene ++ lines) ++ line ∷ [] ≡ scene_lines scene ++ (lines ++ line ∷ [])
    whole = append_assoc (scene_lines scene) lines (line ∷ [])

    upto : take (length (scene_lines scene ++ lines) + 1) ((scene_lines scene ++ lines) ++ line ∷ more) ≡ scene_lines scene ++ (lines ++ line ∷ [])
    upto =
        let xs : List (List ℕ) = scene_lines scene ++ lines in
        let number : length xs + 1 ≡ length (xs ++ line ∷ []) = omega (arith, length-append xs (line ∷ [])) in
        ap (λ n. take n (xs ++ line ∷ more)) number
        ∙ (ap (take (length (xs ++ line ∷ []))) (sym (append_assoc xs (line ∷ []) more)) ∙ (take-append_seam (xs ++ line ∷ []) more ∙ append_assoc (scene_lines scene) lines (line ∷ [])))

    first_bad : IsFirstBadLine ((scene_lines scene ++ lines) ++ line ∷ more) (length (scene_lines scene ++ lines) + 1)
    first_bad =
        let xs : List (List ℕ) = scene_lines scene ++ lines in
        record {
          before = length xs;
          number = omega arith;
          there = omega (arith, length-append xs (line ∷ more));
          start = subst IsStart (sym (take-append_seam xs (line ∷ more))) (after_starts scene lines s t);
          bad = λ k. b.none (starts_after scene (lines ++ line ∷ []) s (subst IsStart upto k));
        }

    formed : FormedAfter (lines ++ line ∷ []) → IsFormed (take (length (scene_lines scene ++ lines) + 1) ((scene_lines scene ++ lines) ++ line ∷ more))
    formed k = subst IsFormed (sym upto) (after_formed scene (lines ++ line ∷ []) s k)

    not_formed : ¬ FormedAfter (lines ++ line ∷ []) → ¬ IsFormed (take (length (scene_lines scene ++ lines) + 1) ((scene_lines scene ++ lines) ++ line ∷ more))
    not_formed n k =
        let f = first_of lines line in
        let all : IsFormed (scene_lines scene ++ f.0 ∷ f.1) = subst (λ xs. IsFormed (scene_lines scene ++ xs)) f.2 (subst IsFormed upto k) in
        n (subst FormedAfter (sym f.2) (formed_after scene f.0 f.1 s all))

    not_ranged : ¬ RangedAfter scene (lines ++ line ∷ []) → ¬ IsInRange (take (length (scene_lines scene ++ lines) + 1) ((scene_lines scene ++ lines) ++ line ∷ more))
    not_ranged n k =
        let f = first_of lines line in
        let all : IsInRange (scene_lines scene ++ f.0 ∷ f.1) = subst (λ xs. IsInRange (scene_lines scene ++ xs)) f.2 (subst IsInRange upto k) in
        n (subst (RangedAfter scene) (sym f.2) (ranged_after scene f.0 f.1 s all))

    by : (w : Why) → Reason scene (lines ++ line ∷ []) w → IsBadFor ((scene_lines scene ++ lines) ++ line ∷ more) tail (length (scene_lines scene ++ lines) + 1) w
    by Cut r = absurd r
    by Form r = (first_bad, not_formed r)
    by Range r = (first_bad, formed r.0, not_ranged r.1)
    by Count r = (first_bad, formed r.0, subst IsInRange (sym upto) (after_ranged scene (lines ++ line ∷ []) s r.1))

-- no feed in the lines of answers and of ends
answers_feed : (scene : Scene) (as' : List Answer) → IsScene scene → Each (IsOfScene scene) as' → Each (λ line. is_without 10 line ≡ true) (texts scene as')
answers_feed scene [] s k = tt
answers_feed scene (a ∷ as') s k = (answer_text-feed (any_answer scene.keys a) (answer_form scene s a k.0), answers_feed scene as' s k.1)

counts_feed : (ends : List Counts) → Each (λ line. is_without 10 line ≡ true) (map counts_text ends)
counts_feed [] = tt
counts_feed (c ∷ ends) = (counts_text-feed c, counts_feed ends)

-- the split of what has been read
pub read_split : (scene : Scene) (text : List ℕ) (n : ℕ) (as' : List Answer) (ends : List Counts) → IsScene scene → AreRead scene text n as' ends → IsSplit text (scene_lines scene ++ (texts scene as' ++ map counts_text ends)) []
read_split scene text n as' ends s r =
    let lines : List (List ℕ) = texts scene as' ++ map counts_text ends in
    let feeds : Each (λ line. is_without 10 line ≡ true) lines =
    each_append (λ line. is_without 10 line ≡ true) (texts scene as') (map counts_text ends) (answers_feed scene as' s r.answers_are.each) (counts_feed ends) in
    subst (λ xs. IsSplit xs (scene_lines scene ++ lines) []) (sym r.spelled) (split_append (spelling scene) (flat_map ended lines) (scene_lines scene) lines [] (scene_split scene s) (split_lines lines feeds))

-- so many lines
read_number : (scene : Scene) (text : List ℕ) (n : ℕ) (as' : List Answer) (ends : List Counts) → AreRead scene text n as' ends → n ≡ length (scene_lines scene ++ (texts scene as' ++ map counts_text ends))
read_number scene text n as' ends r =
    omega (arith, r.number, length-append (scene_lines scene) (texts scene as' ++ map counts_text ends), length-append (texts scene as') (map counts_text ends), length-map as' (spelled_answer scene.keys), length-map ends counts_text)

pub read_starts : (scene : Scene) (text : List ℕ) (n : ℕ) (as' : List Answer) (ends : List Counts) → AreRead scene text n as' ends → StartsAfter scene (texts scene as' ++ map counts_text ends)
read_starts scene text n as' ends r = starts scene as' ends r.answers_are r.ending r.one_end

-- the line that follows is the first bad one
pub bad_follows : (scene : Scene) (text : List ℕ) (start n : ℕ) (as' : List Answer) (ends : List Counts) (line rest : List ℕ) (why : Why) → IsScene scene → AreRead scene (take start text) n as' ends →
    is_without 10 line ≡ true → drop start text ≡ line ++ 10 ∷ rest → BadNext scene (texts scene as' ++ map counts_text ends) line why → FirstBad text (n + 1) why
bad_follows scene text start n as' ends line rest why s r w e b =
    let lines : List (List ℕ) = texts scene as' ++ map counts_text ends in
    let more = split rest in
    let after_ : IsSplit (drop start text) (line ∷ more.lines) more.tail = subst (λ xs. IsSplit xs (line ∷ more.lines) more.tail) (sym e) (split_more line rest more.lines more.tail w more.is) in
    record {
      lines = (scene_lines scene ++ lines) ++ line ∷ more.lines;
      tail = more.tail;
      split =
          subst (λ xs. IsSplit xs ((scene_lines scene ++ lines) ++ line ∷ more.lines) more.tail) (take-append-drop start text)
          (split_append (take start text) (drop start text) (scene_lines scene ++ lines) (line ∷ more.lines) more.tail (read_split scene (take start text) n as' ends s r) after_);
      bad =
          subst (λ k. IsBadFor ((scene_lines scene ++ lines) ++ line ∷ more.lines) more.tail (k + 1) why) (sym (read_number scene (take start text) n as' ends r))
          (bad_next scene lines more.lines line more.tail why s (read_starts scene (take start text) n as' ends r) b);
    }

-- the text ends within a line
pub cut_tail : (scene : Scene) (text : List ℕ) (start n : ℕ) (as' : List Answer) (ends : List Counts) → IsScene scene → AreRead scene (take start text) n as' ends → start < length text → is_without 10 (drop start text) ≡ true →
    FirstBad text (n + 1) Cut
cut_tail scene text start n as' ends s r l w =
    let lines : List (List ℕ) = scene_lines scene ++ (texts scene as' ++ map counts_text ends) in
    record {
      lines = lines;
      tail = drop start text;
      split =
          subst (λ xs. IsSplit xs lines (drop start text)) (take-append-drop start text)
          (subst (λ xs. IsSplit (take start text ++ drop start text) xs (drop start text)) (append-nil lines)
          (split_append (take start text) (drop start text) lines [] (drop start text) (read_split scene (take start text) n as' ends s r) (split_none (drop start text) w)));
      bad = record {
        last = omega (arith, read_number scene (take start text) n as' ends r);
        start = after_starts scene (texts scene as' ++ map counts_text ends) s (read_starts scene (take start text) n as' ends r);
        cut = inl (λ e. (let none : length (drop start text) ≡ 0 = ap length e in omega (arith, none, length-drop start text)));
      };
    }

-- a history has an end line
no_end : (scene : Scene) (as' known : List Answer) (c : Counts) → tail_lines scene as' c ≡ texts scene known → ⊥
no_end scene [] [] c e = absurd (cc)
no_end scene [] (a ∷ known) c e = let last : spelled_answer scene.keys a ≡ counts_text c = cc in answer_no_counts (any_answer scene.keys a) c last
no_end scene (a ∷ as') [] c e = absurd (cc)
no_end scene (a ∷ as') (b ∷ known) c e = let more : tail_lines scene as' c ≡ texts scene known = cc in no_end scene as' known c more

-- the text ends before the end line
pub cut_end : (scene : Scene) (text : List ℕ) (n : ℕ) (as' : List Answer) → IsScene scene → AreRead scene text n as' [] → FirstBad text (n + 1) Cut
cut_end scene text n as' s r =
    let lines : List (List ℕ) = scene_lines scene ++ (texts scene as' ++ []) in
    record {
      lines = lines;
      tail = [];
      split = read_split scene text n as' [] s r;
      bad = record {
        last = omega (arith, read_number scene text n as' [] r);
        start = after_starts scene (texts scene as' ++ []) s (read_starts scene text n as' [] r);
        cut = inr (λ w. (let h = same_scene w.scene scene (tail_lines w.scene w.answers w.counts) (texts scene as' ++ []) w.is_history.is_scene s w.text in
            no_end scene w.answers as' w.counts (subst (λ x. tail_lines x w.answers w.counts ≡ texts scene as') h.0 (h.1 ∙ append-nil (texts scene as')))));
      };
    }

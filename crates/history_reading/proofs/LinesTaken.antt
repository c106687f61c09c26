-- A line after a scene's text that is taken, or is the first bad one.
use Rattle.std.proofs.Common.{List, [], ap, append-nil, append_assoc, arith, drop, false, flat_map, inl, inr, length, length-append, refl, subst, sym, take, take_all, true, ℕ, ◌++◌, ◌+◌, ◌<◌, ◌∙◌, ◌∷◌, ◌≡◌, ◌≤◌}
use Rattle.std.proofs.lemmas.Grind.{flat_map-append}
use Rattle.std.proofs.lemmas.List.{map-append}
use Rattle.history_reading.proofs.BadLines.{BadNext, answer_formed, answer_ranged, bad_follows, counts_formed, counts_ranged, cut_end, cut_tail, ended_formed, ended_starts, full_starts, none_formed, none_starts, texts, wide_ranged}
use Rattle.history_reading.proofs.HistoryStarts.{FormedAfter, RangedAfter, StartsAfter, ranged_of_start}
use Rattle.history_reading.proofs.LinesWritten.{history_written}
use Rattle.history_reading.proofs.TypedAnswers.{answer_form}
use Rattle.history_reading.specs.FirstBad.{FirstBad, IsFaultOf}
use Rattle.history_reading.specs.Histories.{HasFewGets, IsEnding, IsHistory, IsHistoryText, commits_in}
use Rattle.history_reading.specs.HistoryLines.{any_answer, counts_text, spelled_answer}
use Rattle.history_reading.specs.HistoryRanges.{IsOfScene}
use Rattle.history_reading.specs.Reading.{AreRead, IsAfterEnd, IsBadLine, IsOneMore, IsReached, IsRefused, TakesLine, fault_at}
use Rattle.history_reading.specs.declared.reading.Answers.{Answers}
use Rattle.scene_text.specs.LineReading.{is_without}
use Rattle.str_base.specs.declared.limits.TheConstants.{TRANSACTIONS}
use Rattle.str_model.specs.Lines.{Counts}
use Rattle.str_model.specs.declared.messages.Answer.{Answer}
use Rattle.str_scene.proofs.Each.{each_append}
use Rattle.str_scene.specs.Lists.{Each}
use Rattle.str_scene.specs.SceneLimits.{IsScene}
use Rattle.str_scene.specs.Scenes.{Scene}
use Rattle.str_scene.specs.Spelling.{IsText, ended, scene_lines, spelling}
use Rattle.str_scene.specs.declared.faults.SceneFault.{SceneFault}
use Rattle.str_scene.specs.declared.faults.SceneFault.TheVariants.{Count, Form, Memory, Range}
use Rattle.str_scene.specs.declared.faults.Why.TheVariants.{Count as WCount, Cut, Form as WForm, Range as WRange}

-- ---- what has been read

pub reached_start : (scene : Scene) (text : List ℕ) (n : ℕ) (s : Answers) → IsText text scene → n ≡ length (scene_lines scene) → s.list.items ≡ [] → s.commits ≡ 0 → s.is_ended ≡ false → IsReached scene text n s
reached_start scene text n s e f g h k = record {
  ends = [];
  are_read = subst (λ as'. AreRead scene text n as' []) (sym g) (record {
    spelled = e ∙ sym (append-nil (spelling scene));
    number = omega (arith, f);
    answers_are = record { each = tt; few = omega arith; few_gets = tt };
    ending = tt;
    one_end = omega arith;
  });
  commits = h ∙ ap commits_in (sym g);
  is_ended = λ _. refl;
  has_ended = λ q. absurd (cc);
}

-- the text with one line more
longer : (scene : Scene) (xs ys line : List ℕ) (lines more : List (List ℕ)) → ys ≡ xs ++ (line ++ 10 ∷ []) → xs ≡ spelling scene ++ flat_map ended lines → lines ++ line ∷ [] ≡ more → ys ≡ spelling scene ++ flat_map ended more
longer scene xs ys line lines more e f g =
    e ∙ (ap (λ zs. zs ++ (line ++ 10 ∷ [])) f ∙ (append_assoc (spelling scene) (flat_map ended lines) (line ++ 10 ∷ [])
    ∙ ap (λ zs. spelling scene ++ zs) (ap (λ zs. flat_map ended lines ++ zs) (sym (append-nil (line ++ 10 ∷ []))) ∙ (sym (flat_map-append ended lines (line ∷ [])) ∙ ap (flat_map ended) g))))

answer_more : (scene : Scene) (xs ys line : List ℕ) (n : ℕ) (as' : List Answer) (a : Answer) → AreRead scene xs n as' [] → ys ≡ xs ++ (line ++ 10 ∷ []) → line ≡ spelled_answer scene.keys a → IsOfScene scene a → HasFewGets a →
    length as' < TRANSACTIONS → AreRead scene ys (n + 1) (as' ++ a ∷ []) []
answer_more scene xs ys line n as' a r e f o few room = record {
  spelled = longer scene xs ys line (texts scene as' ++ []) (texts scene (as' ++ a ∷ []) ++ []) e r.spelled
      (append_assoc (texts scene as') [] (line ∷ []) ∙ (ap (λ x. texts scene as' ++ x ∷ []) f ∙ (sym (map-append (spelled_answer scene.keys) as' (a ∷ [])) ∙ sym (append-nil (texts scene (as' ++ a ∷ []))))));
  number = omega (arith, r.number, length-append as' (a ∷ []));
  answers_are = record {
    each = each_append (IsOfScene scene) as' (a ∷ []) r.answers_are.each (o, tt);
    few = omega (arith, room, length-append as' (a ∷ []));
    few_gets = each_append HasFewGets as' (a ∷ []) r.answers_are.few_gets (few, tt);
  };
  ending = tt;
  one_end = omega arith;
}

end_more : (scene : Scene) (xs ys line : List ℕ) (n : ℕ) (as' : List Answer) (c : Counts) → AreRead scene xs n as' [] → ys ≡ xs ++ (line ++ 10 ∷ []) → line ≡ counts_text c → IsEnding as' c → AreRead scene ys (n + 1) as' (c ∷ [])
end_more scene xs ys line n as' c r e f g = record {
  spelled = longer scene xs ys line (texts scene as' ++ []) (texts scene as' ++ counts_text c ∷ []) e r.spelled (append_assoc (texts scene as') [] (line ∷ []) ∙ ap (λ x. texts scene as' ++ x ∷ []) f);
  number = omega (arith, r.number);
  answers_are = r.answers_are;
  ending = (g, tt);
  one_end = omega arith;
}

-- no end line yet
open_read : (scene : Scene) (text : List ℕ) (n : ℕ) (s : Answers) (r : IsReached scene text n s) → s.is_ended ≡ false → AreRead scene text n s.list.items []
open_read scene text n s r e = subst (AreRead scene text n s.list.items) (r.is_ended e) r.are_read

pub reached_next : (scene : Scene) (text : List ℕ) (start feed n : ℕ) (line : List ℕ) (s t : Answers) → IsReached scene (take start text) n s → take (feed + 1) text ≡ take start text ++ (line ++ 10 ∷ []) → TakesLine scene line s t →
    IsReached scene (take (feed + 1) text) (n + 1) t
reached_next scene text start feed n line s t r e (was, inl k) = record {
  ends = [];
  are_read =
      subst (λ as'. AreRead scene (take (feed + 1) text) (n + 1) as' []) (sym k.list)
      (answer_more scene (take start text) (take (feed + 1) text) line n s.list.items k.answer (open_read scene (take start text) n s r was) e k.spells.text_is k.spells.ranged k.few_gets k.room);
  commits = k.commits;
  is_ended = λ _. refl;
  has_ended = λ q. absurd (cc (k.not_ended));
}
reached_next scene text start feed n line s t r e (was, inr k) = record {
  ends = k.counts ∷ [];
  are_read =
      subst (λ as'. AreRead scene (take (feed + 1) text) (n + 1) as' (k.counts ∷ [])) (sym k.list)
      (end_more scene (take start text) (take (feed + 1) text) line n s.list.items k.counts (open_read scene (take start text) n s r was) e k.text_is k.ending);
  commits = k.commits ∙ (r.commits ∙ ap commits_in (sym k.list));
  is_ended = λ q. absurd (cc (k.ended));
  has_ended = λ _. refl;
}

pub reached_all : (scene : Scene) (text : List ℕ) (start n : ℕ) (s : Answers) → length text ≤ start → IsReached scene (take start text) n s → IsReached scene text n s
reached_all scene text start n s l r = subst (λ x. IsReached scene x n s) (take_all start text l) r

-- ---- the first bad line

-- the one end line
ends_one : (ends : List Counts) → length ends ≡ 1 → (c : Counts) × (ends ≡ c ∷ [])
ends_one [] e = absurd (omega (arith, e))
ends_one (c ∷ []) e = (c, refl)
ends_one (c ∷ d ∷ ends) e = absurd (omega (arith, e))

-- a line after the end line
after_end : (scene : Scene) (as' : List Answer) (c : Counts) (line : List ℕ) → IsScene scene → Each (IsOfScene scene) as' → BadNext scene (texts scene as' ++ counts_text c ∷ []) line WForm
after_end scene as' c line s k =
    let same : (texts scene as' ++ counts_text c ∷ []) ++ line ∷ [] ≡ texts scene as' ++ counts_text c ∷ line ∷ [] = append_assoc (texts scene as') (counts_text c ∷ []) (line ∷ []) in
    record {
      none = λ t. ended_starts scene as' c line s k (subst (StartsAfter scene) same t);
      reason = λ t. ended_formed scene as' c line (subst FormedAfter same t);
    }

-- lines without an end line
no_ends : (scene : Scene) (as' : List Answer) (line : List ℕ) → (texts scene as' ++ []) ++ line ∷ [] ≡ texts scene as' ++ line ∷ []
no_ends scene as' line = append_assoc (texts scene as') [] (line ∷ [])

form_next : (scene : Scene) (as' : List Answer) (line : List ℕ) → IsScene scene → Each (IsOfScene scene) as' → IsRefused scene line as' Form → BadNext scene (texts scene as' ++ []) line WForm
form_next scene as' line s k b = record {
  none = λ t. none_starts scene as' line s k b.0 b.1 (subst (StartsAfter scene) (no_ends scene as' line) t);
  reason = λ t. none_formed scene as' line b.0 b.1 (subst FormedAfter (no_ends scene as' line) t);
}

range_next : (scene : Scene) (as' : List Answer) (line : List ℕ) → IsScene scene → Each (IsOfScene scene) as' → IsRefused scene line as' Range → BadNext scene (texts scene as' ++ []) line WRange
range_next scene as' line s k (inl w) =
    let same = no_ends scene as' line in
    let wide = wide_ranged scene as' line s k w in
    record {
      none = λ t. wide (ranged_of_start scene _ (subst (StartsAfter scene) same t));
      reason = (subst FormedAfter (sym same) (answer_formed scene as' line w.answer s k w.form w.text_is), λ t. wide (subst (RangedAfter scene) same t));
    }
range_next scene as' line s k (inr w) =
    let same = no_ends scene as' line in
    let wide = counts_ranged scene as' line s k w in
    record {
      none = λ t. wide (ranged_of_start scene _ (subst (StartsAfter scene) same t));
      reason = (subst FormedAfter (sym same) (counts_formed scene as' line w.counts s k w.text_is), λ t. wide (subst (RangedAfter scene) same t));
    }

count_next : (scene : Scene) (as' : List Answer) (line : List ℕ) → IsScene scene → Each (IsOfScene scene) as' → IsOneMore scene line as' → BadNext scene (texts scene as' ++ []) line WCount
count_next scene as' line s k w =
    let same = no_ends scene as' line in
    record {
      none = λ t. full_starts scene as' line s k w (subst (StartsAfter scene) same t);
      reason = (
        subst FormedAfter (sym same) (answer_formed scene as' line (any_answer scene.keys w.answer) s k (answer_form scene s w.answer w.spells.ranged) w.spells.text_is),
        subst (RangedAfter scene) (sym same) (answer_ranged scene as' line w.answer k w.spells),
      );
    }

-- the fault of a line that is bad
pub line_bad : (scene : Scene) (text : List ℕ) (start n : ℕ) (line rest : List ℕ) (s : Answers) (f : SceneFault) → IsScene scene → IsReached scene (take start text) n s → is_without 10 line ≡ true → drop start text ≡ line ++ 10 ∷ rest →
    IsBadLine scene line s f → IsFaultOf text (fault_at (n + 1) f)
line_bad scene text start n line rest s f ok r w e (inl b) = by f b.1
  where
    by : (g : SceneFault) → IsAfterEnd g → IsFaultOf text (fault_at (n + 1) g)
    by Form h =
        let one = ends_one r.ends (r.has_ended b.0) in
        bad_follows scene text start n s.list.items (one.0 ∷ []) line rest WForm ok (subst (AreRead scene (take start text) n s.list.items) one.1 r.are_read) w e
        (after_end scene s.list.items one.0 line ok r.are_read.answers_are.each)
    by Range h = absurd h
    by Count h = absurd h
    by Memory h = tt
line_bad scene text start n line rest s f ok r w e (inr b) = by f b.1
  where
    by : (g : SceneFault) → IsRefused scene line s.list.items g → IsFaultOf text (fault_at (n + 1) g)
    by Form h = bad_follows scene text start n s.list.items [] line rest WForm ok (open_read scene (take start text) n s r b.0) w e (form_next scene s.list.items line ok r.are_read.answers_are.each h)
    by Range h = bad_follows scene text start n s.list.items [] line rest WRange ok (open_read scene (take start text) n s r b.0) w e (range_next scene s.list.items line ok r.are_read.answers_are.each h)
    by Count h = bad_follows scene text start n s.list.items [] line rest WCount ok (open_read scene (take start text) n s r b.0) w e (count_next scene s.list.items line ok r.are_read.answers_are.each h)
    by Memory h = tt

pub tail_bad : (scene : Scene) (text : List ℕ) (start n : ℕ) (s : Answers) → IsScene scene → IsReached scene (take start text) n s → start < length text → is_without 10 (drop start text) ≡ true → FirstBad text (n + 1) Cut
tail_bad scene text start n s ok r l w = cut_tail scene text start n s.list.items r.ends ok r.are_read l w

pub end_bad : (scene : Scene) (text : List ℕ) (n : ℕ) (s : Answers) → IsScene scene → IsReached scene text n s → s.is_ended ≡ false → FirstBad text (n + 1) Cut
end_bad scene text n s ok r e = cut_end scene text n s.list.items ok (open_read scene text n s r e)

-- ---- the whole

pub all_taken : (scene : Scene) (text : List ℕ) (n : ℕ) (s : Answers) → IsScene scene → IsReached scene text n s → s.is_ended ≡ true → IsHistoryText text scene s.list.items
unfolding spelling
all_taken scene text n s ok r e =
    let one = ends_one r.ends (r.has_ended e) in
    let read : AreRead scene text n s.list.items (one.0 ∷ []) = subst (AreRead scene text n s.list.items) one.1 r.are_read in
    let is : IsHistory scene s.list.items one.0 = record { is_scene = ok; answers_are = read.answers_are; ending = read.ending.0 } in
    record {
      counts = one.0;
      is_history = is;
      spelled = read.spelled ∙ (sym (flat_map-append ended (scene_lines scene) (texts scene s.list.items ++ counts_text one.0 ∷ [])) ∙ sym (history_written scene s.list.items one.0 is));
    }

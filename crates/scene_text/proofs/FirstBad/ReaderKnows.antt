-- What a reader knows of a text, line by line: the first bad line, or the scene.
use Rattle.std.proofs.Common.{List, None, [], ap, append-nil, append_assoc, arith, drop, inl, inr, length, length-append, length-drop, map, refl, subst, sym, take, true, ℕ, ◌++◌, ◌+◌, ◌<◌, ◌∙◌, ◌∷◌, ◌≡◌}
use Rattle.std.proofs.lemmas.List.{length-map, map-append, take-append-drop}
use Rattle.std.proofs.lemmas.Grind.{flat_map-append}
use Rattle.std.specs.Prelude.{flat_map}
use Rattle.scene_text.proofs.FirstBad.RefusedLines.{misspelled, refused, taken_is_start}
use Rattle.scene_text.proofs.Taking.SessionLines.{taken_on}
use Rattle.scene_text.proofs.Spelling.LinesSplit.{Split, split, split_more, split_none}
use Rattle.scene_text.proofs.FirstBad.FirstLines.{end_scene, whole_at_end}
use Rattle.scene_text.proofs.Spelling.TextsApart.{line_text-no_feed}
use Rattle.scene_text.specs.FirstBad.{FirstBad, IsBadFor, IsSplit, IsStart, IsWhole}
use Rattle.scene_text.specs.LineOrder.{follows}
use Rattle.scene_text.specs.LineOrder.Place.{AfterEnd}
use Rattle.scene_text.specs.LineTexts.{IsForm, line_text}
use Rattle.scene_text.specs.Reaching.{Reached}
use Rattle.scene_text.specs.Taking.{Limits, State, at_start, goes_on, placed, scene_limits, take_line, take_lines}
use Rattle.scene_text.specs.Taking.Taken.{Now, Refused}
use Rattle.scene_text.specs.declared.lines.Line.{Line}
use Rattle.str_scene.proofs.Each.{each_append, each_at, each_from}
use Rattle.str_scene.specs.Lists.{Each}
use Rattle.str_scene.specs.SceneLimits.{IsScene}
use Rattle.str_scene.specs.Spelling.{IsText, ended, spelling}
use Rattle.str_scene.specs.Lists.{is_without}
use Rattle.str_scene.specs.declared.faults.Why.{Why}
use Rattle.str_scene.specs.declared.faults.Why.TheVariants.{Cut, Form}

-- nothing is read
pub reached_start : Reached [] 0 at_start
reached_start = record { lines = []; forms = λ i l e. absurd (cc); number = refl; spelled = refl; lead = refl }

-- one line more
pub reached_line : (text : List ℕ) (start feed n : ℕ) (line : List ℕ) (l : Line) (s t : State) → Reached (take start text) n s →
    take (feed + 1) text ≡ take start text ++ (line ++ 10 ∷ []) → IsForm l → line ≡ line_text l → take_line scene_limits s l ≡ Now t → Reached (take (feed + 1) text) (n + 1) t
reached_line text start feed n line l s t r passed form is next = record {
  lines = r.lines ++ l ∷ [];
  forms = λ i x e. each_at IsForm (r.lines ++ l ∷ []) i x (each_append IsForm r.lines (l ∷ []) (each_from IsForm r.lines r.forms) (form, tt)) e;
  number = omega (arith, length-append r.lines (l ∷ []), r.number);
  spelled =
      passed ∙ (ap (λ xs. xs ++ (line ++ 10 ∷ [])) r.spelled ∙ (ap (λ xs. flat_map ended (map line_text r.lines) ++ ended xs) is
      ∙ (ap (λ xs. flat_map ended (map line_text r.lines) ++ xs) (sym (append-nil (ended (line_text l))))
      ∙ (sym (flat_map-append ended (map line_text r.lines) (line_text l ∷ [])) ∙ ap (flat_map ended) (sym (map-append line_text r.lines (l ∷ [])))))));
  lead = taken_on scene_limits r.lines (l ∷ []) at_start s r.lead ∙ ap (goes_on (λ x. take_lines scene_limits x [])) next;
}

-- lines of the form before a split
pub split_read : (read : List Line) (bytes : List ℕ) (lines : List (List ℕ)) (tail : List ℕ) → Each IsForm read → IsSplit bytes lines tail →
    IsSplit (flat_map ended (map line_text read) ++ bytes) (map line_text read ++ lines) tail
split_read [] bytes lines tail f s = s
split_read (l ∷ ls) bytes lines tail f s =
    let rest : List ℕ = flat_map ended (map line_text ls) in
    subst (λ xs. IsSplit xs (line_text l ∷ (map line_text ls ++ lines)) tail)
    (sym (append_assoc (ended (line_text l)) rest bytes ∙ append_assoc (line_text l) (10 ∷ []) (rest ++ bytes)))
    (split_more (line_text l) (rest ++ bytes) (map line_text ls ++ lines) tail (line_text-no_feed l f.0) (split_read ls bytes lines tail f.1 s))

-- a text in two parts
parts : (text : List ℕ) (start : ℕ) (rest : List ℕ) → drop start text ≡ rest → take start text ++ rest ≡ text
parts text start rest e = ap (λ xs. take start text ++ xs) (sym e) ∙ take-append-drop start text

-- the text after the lines that were read, with the next
split_next : (text : List ℕ) (start n : ℕ) (line rest : List ℕ) (s : State) (r : Reached (take start text) n s) (more : Split rest) → is_without 10 line ≡ true →
    drop start text ≡ line ++ 10 ∷ rest → IsSplit text (map line_text r.lines ++ line ∷ more.lines) more.tail
split_next text start n line rest s r more whole e =
    subst (λ xs. IsSplit xs (map line_text r.lines ++ line ∷ more.lines) more.tail)
    (ap (λ xs. xs ++ (line ++ 10 ∷ rest)) (sym r.spelled) ∙ parts text start (line ++ 10 ∷ rest) e)
    (split_read r.lines (line ++ 10 ∷ rest) (line ∷ more.lines) more.tail (each_from IsForm r.lines r.forms) (split_more line rest more.lines more.tail whole more.is))

-- the first bad line by why it is bad
bad_as : (text : List ℕ) (n m : ℕ) (why : Why) (lines : List (List ℕ)) (tail : List ℕ) → n ≡ m → IsSplit text lines tail → IsBadFor lines tail (n + 1) why → FirstBad text (m + 1) why
bad_as text n m why lines tail e s b = subst (λ k. FirstBad text (k + 1) why) e (record { lines = lines; tail = tail; split = s; bad = b })

-- a line that is not of the form
pub bad_form : (text : List ℕ) (start n : ℕ) (line rest : List ℕ) (s : State) → Reached (take start text) n s → is_without 10 line ≡ true →
    drop start text ≡ line ++ 10 ∷ rest → ((l : Line) → IsForm l → ¬ (line ≡ line_text l)) → FirstBad text (n + 1) Form
bad_form text start n line rest s r whole e none =
    let more = split rest in
    bad_as text (length r.lines) n Form (map line_text r.lines ++ line ∷ more.lines) more.tail r.number (split_next text start n line rest s r more whole e)
    (misspelled r.lines line more.lines more.tail s (each_from IsForm r.lines r.forms) r.lead none)

-- a line that is refused
pub bad_line : (text : List ℕ) (start n : ℕ) (line rest : List ℕ) (l : Line) (s : State) (why : Why) → Reached (take start text) n s → is_without 10 line ≡ true →
    drop start text ≡ line ++ 10 ∷ rest → IsForm l → line ≡ line_text l → take_line scene_limits s l ≡ Refused why → FirstBad text (n + 1) why
bad_line text start n line rest l s why r whole e form is fault =
    let more = split rest in
    bad_as text (length r.lines) n why (map line_text r.lines ++ line ∷ more.lines) more.tail r.number (split_next text start n line rest s r more whole e)
    (subst (λ x. IsBadFor (map line_text r.lines ++ x ∷ more.lines) more.tail (length r.lines + 1) why) (sym is)
    (refused r.lines l more.lines more.tail s why (each_from IsForm r.lines r.forms) form r.lead fault))

-- bytes without a line feed after the lines that were read
pub bad_tail : (text : List ℕ) (start n : ℕ) (s : State) → Reached (take start text) n s → start < length text → is_without 10 (drop start text) ≡ true → FirstBad text (n + 1) Cut
bad_tail text start n s r l none =
    let f = each_from IsForm r.lines r.forms in
    let tail : List ℕ = drop start text in
    let lines : List (List ℕ) = map line_text r.lines ++ [] in
    let same : lines ≡ map line_text r.lines = append-nil (map line_text r.lines) in
    bad_as text (length r.lines) n Cut lines tail r.number
    (subst (λ xs. IsSplit xs lines tail) (ap (λ xs. xs ++ tail) (sym r.spelled) ∙ take-append-drop start text) (split_read r.lines tail [] tail f (split_none tail none)))
    (record {
      last = omega (arith, ap length same, length-map r.lines line_text);
      start = subst IsStart (sym same) (taken_is_start r.lines s f r.lead);
      cut = inl (λ e. omega (arith, ap length e, length-drop start text));
    })

-- the end of the text before the last line
pub bad_end : (text : List ℕ) (n : ℕ) (s : State) → Reached text n s → ¬ (s.place ≡ AfterEnd) → FirstBad text (n + 1) Cut
bad_end text n s r open_ =
    let f = each_from IsForm r.lines r.forms in
    let lines : List (List ℕ) = map line_text r.lines ++ [] in
    let same : lines ≡ map line_text r.lines = append-nil (map line_text r.lines) in
    bad_as text (length r.lines) n Cut lines [] r.number
    (subst (λ xs. IsSplit xs lines []) (append-nil (flat_map ended (map line_text r.lines)) ∙ sym r.spelled) (split_read r.lines [] [] [] f (split_none [] refl)))
    (record {
      last = omega (arith, ap length same, length-map r.lines line_text);
      start = subst IsStart (sym same) (taken_is_start r.lines s f r.lead);
      cut = inr (λ w. open_ (whole_at_end (map line_text r.lines) (record { read = r.lines; forms = f; texts = refl; taken = record { state = s; lead = r.lead } }) (subst IsWhole same w)));
    })

-- the end of the text after the last line
pub end_text : (text : List ℕ) (n : ℕ) (s : State) → Reached text n s → s.place ≡ AfterEnd → IsScene s.draft × IsText text s.draft
unfolding spelling
end_text text n s r at =
    let h = end_scene r.lines s (each_from IsForm r.lines r.forms) r.lead at in
    (h.0, r.spelled ∙ ap (flat_map ended) h.1)

-- a line that may not stand here is refused for its form
pub out_of_place : (limits : Limits) (s : State) (l : Line) → follows s.draft.version s.place l ≡ None → take_line limits s l ≡ Refused Form
out_of_place limits s l e = ap (placed limits s l) e

-- The first bad line of a scene's text is that of a history's.
use Rattle.std.proofs.Common.{List, [], ap, append-nil, append_assoc, arith, drop, flat_map, inl, inr, length, length-append, refl, subst, sym, take, take_all, true, ℕ, ◌++◌, ◌∙◌, ◌∷◌, ◌≡◌, ◌≤◌, ◌⊎◌}
use Rattle.std.proofs.lemmas.Grind.{flat_map-append}
use Rattle.std.proofs.lemmas.List.{take-append-drop, take-append-le}
use Rattle.history_reading.proofs.SceneEnds.{end_word, first_end, not_among, once_then, scene_once}
use Rattle.history_reading.specs.FirstBad.{FirstBad, IsBadFor, IsFaultOf, IsFirstBadLine, IsFormed, IsInRange, IsStart, IsWhole}
use Rattle.history_reading.specs.HistoryLines.{counts_text}
use Rattle.history_reading.specs.Reading.{EndsThere, IsHead, IsNoEnd, scene_fault}
use Rattle.scene_text.proofs.Spelling.LinesSplit.{one_split, split}
use Rattle.scene_text.specs.FirstBad as scene
use Rattle.scene_text.specs.FirstBad.{IsSplit}
use Rattle.scene_text.specs.LineReading.{is_without}
use Rattle.scene_text.specs.Reading.{IsFaultOf as IsSceneFaultOf}
use Rattle.scene_text.specs.declared.read.TextFault.{TextFault}
use Rattle.scene_text.specs.declared.read.TextFault.TheVariants.{Bad, Memory}
use Rattle.str_model.specs.Lines.{Counts}
use Rattle.str_scene.proofs.Each.{each_append, each_at, each_from}
use Rattle.str_scene.specs.Lists.{Each}
use Rattle.str_scene.specs.SceneLimits.{IsScene}
use Rattle.str_scene.specs.Scenes.{Scene}
use Rattle.str_scene.specs.Spelling.{ended, scene_lines}
use Rattle.str_scene.specs.declared.faults.Why.{Why}
use Rattle.str_scene.specs.declared.faults.Why.TheVariants.{Count, Cut, Form, Range}

-- ---- splits

-- lines without a feed and then a split
pub split_append : (xs ys : List ℕ) (as' bs : List (List ℕ)) (tail : List ℕ) → IsSplit xs as' [] → IsSplit ys bs tail → IsSplit (xs ++ ys) (as' ++ bs) tail
split_append xs ys as' bs tail s t =
    let P : List ℕ → Type 0 = λ line. is_without 10 line ≡ true in
    let each : Each P (as' ++ bs) = each_append P as' bs (each_from P as' s.without_feed) (each_from P bs t.without_feed) in
    record {
      parts =
          (λ i. (s.parts ∙ append-nil (flat_map ended as')) i ++ t.parts i) ∙ (sym (append_assoc (flat_map ended as') (flat_map ended bs) tail)
          ∙ ap (λ zs. zs ++ tail) (sym (flat_map-append ended as' bs)));
      without_feed = λ i line e. each_at P (as' ++ bs) i line each e;
      tail_without = t.tail_without;
    }

-- such lines alone
pub split_lines : (as' : List (List ℕ)) → Each (λ line. is_without 10 line ≡ true) as' → IsSplit (flat_map ended as') as' []
split_lines as' f = record { parts = sym (append-nil (flat_map ended as')); without_feed = λ i line e. each_at (λ x. is_without 10 x ≡ true) as' i line f e; tail_without = refl }

-- ---- the first bad line, from the lines before it

abbrev pub no_counts : Counts
no_counts = record { commits = 0; aborts = 0; held = 0; unbegun = 0; messages = 0 }

-- the first lines of a scene's text are the first lines of a history
pub scene_starts : (lines : List (List ℕ)) → scene.IsStart lines → IsStart lines
scene_starts lines t = record {
  scene = t.scene;
  answers = [];
  counts = no_counts;
  rest = t.rest ++ counts_text no_counts ∷ [];
  is_history = record { is_scene = t.is_scene; answers_are = record { each = tt; few = omega arith; few_gets = tt }; ending = record { commits = refl; aborts = refl; held = omega arith; unbegun = omega arith; messages = omega arith } };
  text = ap (λ xs. xs ++ counts_text no_counts ∷ []) t.text ∙ append_assoc lines t.rest (counts_text no_counts ∷ []);
}

-- no line but the last may be a scene's last
abbrev pub OneEnd : List (List ℕ) → Type 0
OneEnd lines = Each IsNoEnd lines ⊎ ((before : List (List ℕ)) × Each IsNoEnd before × (lines ≡ before ++ end_word ∷ []))

-- two lists that begin alike: one goes on where the other ends
begins : (before xs more rest : List (List ℕ)) → before ++ end_word ∷ more ≡ xs ++ rest →
    ((m : List (List ℕ)) × (before ++ end_word ∷ [] ≡ xs ++ m)) ⊎ ((r : List ℕ) × (rs : List (List ℕ)) × (xs ≡ before ++ end_word ∷ r ∷ rs))
begins before [] more rest e = inl (before ++ end_word ∷ [], refl)
begins [] (x ∷ []) more rest e = let first : end_word ≡ x = cc in inl ([], λ i. first i ∷ [])
begins [] (x ∷ r ∷ rs) more rest e = let first : x ≡ end_word = cc in inr (r, rs, λ i. first i ∷ r ∷ rs)
begins (b ∷ before) (x ∷ xs) more rest e =
    let first : b ≡ x = cc in
    let after : before ++ end_word ∷ more ≡ xs ++ rest = cc in
    elim (begins before xs more rest after) [
      | inl h ↦ inl (h.0, λ i. first i ∷ h.1 i)
      | inr h ↦ inr (h.0, h.1, λ i. sym first i ∷ h.2 i)
    ]

-- it ends there
not_past : (before xs m : List (List ℕ)) (r : List ℕ) (rs : List (List ℕ)) → Each IsNoEnd before → OneEnd (xs ++ m) → xs ≡ before ++ end_word ∷ r ∷ rs → ⊥
not_past before xs m r rs n (inl h) e = not_among (xs ++ m) before ((r ∷ rs) ++ m) h (ap (λ zs. zs ++ m) e ∙ append_assoc before (end_word ∷ r ∷ rs) m)
not_past before xs m r rs n (inr h) e =
    let k = first_end before h.0 ((r ∷ rs) ++ m) [] n h.1 (sym (append_assoc before (end_word ∷ r ∷ rs) m) ∙ (ap (λ zs. zs ++ m) (sym e) ∙ h.2)) in
    let none : r ∷ (rs ++ m) ≡ [] = k.1 in
    absurd (cc)

-- where the lines of a scene and more begin with first lines of those, these are the first of the scene
pub begins_scene : (sc : Scene) → IsScene sc → (more xs rest m : List (List ℕ)) → OneEnd (xs ++ m) → scene_lines sc ++ more ≡ xs ++ rest → scene.IsStart xs
begins_scene sc s more xs rest m one e =
    let o = scene_once sc s in
    elim (begins o.before xs more rest (sym (once_then (scene_lines sc) o more) ∙ e)) [
      | inl h ↦ record { scene = sc; rest = h.0; is_scene = s; text = o.lines_are ∙ h.1 }
      | inr h ↦ absurd (not_past o.before xs m h.0 h.1 o.none one h.2)
    ]

-- ---- from a scene's first bad line

first_line : (lines more : List (List ℕ)) (n : ℕ) → OneEnd lines → scene.IsFirstBadLine lines n → IsFirstBadLine (lines ++ more) n
first_line lines more n one b =
    let before : take b.before (lines ++ more) ≡ take b.before lines = take-append-le b.before lines more (omega (arith, b.number, b.there)) in
    let upto : take n (lines ++ more) ≡ take n lines = take-append-le n lines more b.there in
    record {
      before = b.before;
      number = b.number;
      there = omega (arith, b.there, length-append lines more);
      start = subst IsStart (sym before) (scene_starts (take b.before lines) b.start);
      bad = λ t. (let k : IsStart (take n lines) = subst IsStart upto t in
          b.bad (begins_scene k.scene k.is_history.is_scene _ (take n lines) k.rest (drop n lines) (subst OneEnd (sym (take-append-drop n lines)) one) k.text));
    }

not_formed : (lines : List (List ℕ)) (n : ℕ) → OneEnd lines → ¬ scene.IsStart (take n lines) → ¬ scene.IsFormed (take n lines) → ¬ IsFormed (take n lines)
not_formed lines n one b f (inl k) = f k
not_formed lines n one b f (inr k) =
    b (begins_scene k.scene k.is_scene _ (take n lines) [] (drop n lines) (subst OneEnd (sym (take-append-drop n lines)) one) (k.text ∙ sym (append-nil (take n lines))))

not_ranged : (lines : List (List ℕ)) (n : ℕ) → OneEnd lines → ¬ scene.IsStart (take n lines) → ¬ scene.IsInRange (take n lines) → ¬ IsInRange (take n lines)
not_ranged lines n one b f (inl k) = f k
not_ranged lines n one b f (inr k) =
    b (begins_scene k.scene k.is_scene _ (take n lines) k.rest (drop n lines) (subst OneEnd (sym (take-append-drop n lines)) one) k.text)

pub bad_for : (lines more : List (List ℕ)) (tail end : List ℕ) (n : ℕ) (why : Why) → OneEnd lines → (why ≡ Cut → ⊥) → scene.IsBadFor lines tail n why → IsBadFor (lines ++ more) end n why
bad_for lines more tail end n Cut one not_cut b = absurd (not_cut refl)
bad_for lines more tail end n Form one not_cut b =
    let upto : take n (lines ++ more) ≡ take n lines = take-append-le n lines more b.0.there in
    (first_line lines more n one b.0, λ k. not_formed lines n one b.0.bad b.1 (subst IsFormed upto k))
bad_for lines more tail end n Range one not_cut b =
    let upto : take n (lines ++ more) ≡ take n lines = take-append-le n lines more b.0.there in
    (first_line lines more n one b.0, subst IsFormed (sym upto) (inl b.1), λ k. not_ranged lines n one b.0.bad b.2 (subst IsInRange upto k))
bad_for lines more tail end n Count one not_cut b =
    let upto : take n (lines ++ more) ≡ take n lines = take-append-le n lines more b.0.there in
    (first_line lines more n one b.0, subst IsFormed (sym upto) (inl b.1), subst IsInRange (sym upto) (inl b.2))

-- lines up to a scene's last line are not cut
ended_not_cut : (before : List (List ℕ)) (n : ℕ) → Each IsNoEnd before → scene.IsCut (before ++ end_word ∷ []) [] n → ⊥
ended_not_cut before n none c =
    let o = scene_once c.start.scene c.start.is_scene in
    let h = first_end o.before before [] c.start.rest o.none none (sym o.lines_are ∙ (c.start.text ∙ append_assoc before (end_word ∷ []) c.start.rest)) in
    let whole : scene.IsWhole (before ++ end_word ∷ []) = record { scene = c.start.scene; is_scene = c.start.is_scene; text = o.lines_are ∙ ap (λ xs. xs ++ end_word ∷ []) h.0 } in
    elim c.cut [ inl e ↦ e refl | inr e ↦ e whole ]

-- and lines of which none may be a scene's last are no history
cut_whole : (lines : List (List ℕ)) → Each IsNoEnd lines → ¬ IsWhole lines
cut_whole lines none w =
    let o = scene_once w.scene w.is_history.is_scene in
    not_among lines o.before _ none (sym w.text ∙ once_then (scene_lines w.scene) o _)

-- what a scene's first bad line is of the whole text
bad_ended : (text : List ℕ) (start n : ℕ) (why : Why) (before : List (List ℕ)) → Each IsNoEnd before → IsSplit (take start text) (before ++ end_word ∷ []) [] → scene.IsBadFor (before ++ end_word ∷ []) [] n why → FirstBad text n why
bad_ended text start n why before none s b =
    let rest = split (drop start text) in
    record {
      lines = (before ++ end_word ∷ []) ++ rest.lines;
      tail = rest.tail;
      split = subst (λ xs. IsSplit xs ((before ++ end_word ∷ []) ++ rest.lines) rest.tail) (take-append-drop start text) (split_append (take start text) (drop start text) (before ++ end_word ∷ []) rest.lines rest.tail s rest.is);
      bad = bad_for (before ++ end_word ∷ []) rest.lines [] rest.tail n why (inr (before, none, refl)) (λ e. ended_not_cut before n none (subst (scene.IsBadFor (before ++ end_word ∷ []) [] n) e b)) b;
    }

bad_open : (text : List ℕ) (n : ℕ) (why : Why) (lines : List (List ℕ)) (tail : List ℕ) → Each IsNoEnd lines → IsSplit text lines tail → scene.IsBadFor lines tail n why → FirstBad text n why
bad_open text n Cut lines tail none s b = record {
  lines = lines;
  tail = tail;
  split = s;
  bad = record { last = b.last; start = scene_starts lines b.start; cut = elim b.cut [ inl e ↦ inl e | inr e ↦ inr (cut_whole lines none) ] };
}
bad_open text n Form lines tail none s b = record { lines = lines; tail = tail; split = s; bad = subst (λ xs. IsBadFor xs tail n Form) (append-nil lines) (bad_for lines [] tail tail n Form (inl none) (λ e. absurd (cc)) b) }
bad_open text n Range lines tail none s b = record { lines = lines; tail = tail; split = s; bad = subst (λ xs. IsBadFor xs tail n Range) (append-nil lines) (bad_for lines [] tail tail n Range (inl none) (λ e. absurd (cc)) b) }
bad_open text n Count lines tail none s b = record { lines = lines; tail = tail; split = s; bad = subst (λ xs. IsBadFor xs tail n Count) (append-nil lines) (bad_for lines [] tail tail n Count (inl none) (λ e. absurd (cc)) b) }

pub bad_scene : (text : List ℕ) (start count n : ℕ) (why : Why) → IsHead text start count → scene.FirstBad (take start text) n why → FirstBad text n why
bad_scene text start count n why h b =
    let same = one_split (take start text) b.lines h.lines b.tail h.tail b.split h.split in
    let bad : scene.IsBadFor h.lines h.tail n why = subst (λ tail. scene.IsBadFor h.lines tail n why) same.1 (subst (λ lines. scene.IsBadFor lines b.tail n why) same.0 b.bad) in
    by h.ends bad
  where
    by : EndsThere h.lines h.tail ⊎ ((length text ≤ start) × Each IsNoEnd h.lines) → scene.IsBadFor h.lines h.tail n why → FirstBad text n why
    by (inl e) k =
        bad_ended text start n why e.before e.none (subst (λ tail. IsSplit (take start text) (e.before ++ end_word ∷ []) tail) e.no_tail (subst (λ lines. IsSplit (take start text) lines h.tail) e.lines_are h.split))
        (subst (λ tail. scene.IsBadFor (e.before ++ end_word ∷ []) tail n why) e.no_tail (subst (λ lines. scene.IsBadFor lines h.tail n why) e.lines_are k))
    by (inr e) k = bad_open text n why h.lines h.tail e.1 (subst (λ xs. IsSplit xs h.lines h.tail) (take_all start text e.0) h.split) k

-- the fault of a scene's text is one of the history's
pub fault_scene : (text : List ℕ) (start count : ℕ) (f : TextFault) → IsHead text start count → IsSceneFaultOf (take start text) f → IsFaultOf text (scene_fault f)
fault_scene text start count (Bad n why) h b = bad_scene text start count n why h b
fault_scene text start count Memory h b = tt

-- Where the scene's text ends in a history's.
use Rattle.std.proofs.Common.{List, [], append-nil, arith, drop, inl, inr, length, length-append, refl, subst, sym, take, take_all, true, ℕ, ◌++◌, ◌+◌, ◌∙◌, ◌∷◌, ◌≡◌, ap}
use Rattle.std.proofs.lemmas.List.{take-append-drop}
use Rattle.history_reading.proofs.BadScenes.{split_append, split_lines}
use Rattle.history_reading.specs.Reading.{IsHead, IsNoEnd}
use Rattle.scene_text.proofs.FirstBad.FirstBadLaws.{scene_split}
use Rattle.scene_text.proofs.Spelling.LinesSplit.{one_split, split_none}
use Rattle.scene_text.specs.FirstBad.{IsSplit}
use Rattle.scene_text.specs.LineReading.{is_without}
use Rattle.str_scene.proofs.Each.{each_append}
use Rattle.str_scene.specs.Lists.{Each}
use Rattle.str_scene.specs.SceneLimits.{IsScene}
use Rattle.str_scene.specs.Scenes.{Scene}
use Rattle.str_scene.specs.Spelling.{IsText, scene_lines}

-- so far no line may be a scene's last
pub record HeadSoFar (text : List ℕ) (start count : ℕ) : Type 0 where
  pub lines : List (List ℕ)
  pub split : IsSplit (take start text) lines []
  pub number : length lines ≡ count
  pub none : Each IsNoEnd lines

pub head_begins : (text : List ℕ) → HeadSoFar text 0 0
head_begins text = record { lines = []; split = split_lines [] tt; number = refl; none = tt }

-- one line more
one_more : (text : List ℕ) (start feed : ℕ) (line : List ℕ) (lines : List (List ℕ)) → take (feed + 1) text ≡ take start text ++ (line ++ 10 ∷ []) → is_without 10 line ≡ true → IsSplit (take start text) lines [] →
    IsSplit (take (feed + 1) text) (lines ++ line ∷ []) []
one_more text start feed line lines e w s =
    subst (λ xs. IsSplit xs (lines ++ line ∷ []) []) (sym (e ∙ ap (λ xs. take start text ++ xs) (sym (append-nil (line ++ 10 ∷ [])))))
    (split_append (take start text) ((line ++ 10 ∷ []) ++ []) lines (line ∷ []) [] s (split_lines (line ∷ []) (w, tt)))

pub head_goes_on : (text : List ℕ) (start feed count : ℕ) (line : List ℕ) → HeadSoFar text start count → take (feed + 1) text ≡ take start text ++ (line ++ 10 ∷ []) → is_without 10 line ≡ true → IsNoEnd line → HeadSoFar text (feed + 1) (count + 1)
head_goes_on text start feed count line h e w n = record {
  lines = h.lines ++ line ∷ [];
  split = one_more text start feed line h.lines e w h.split;
  number = omega (arith, h.number, length-append h.lines (line ∷ []));
  none = each_append IsNoEnd h.lines (line ∷ []) h.none (n, tt);
}

-- the line may be a scene's last
pub head_ends : (text : List ℕ) (start feed count : ℕ) (line : List ℕ) → HeadSoFar text start count → take (feed + 1) text ≡ take start text ++ (line ++ 10 ∷ []) → is_without 10 line ≡ true → line ≡ 101 ∷ 110 ∷ 100 ∷ [] →
    IsHead text (feed + 1) (count + 1)
head_ends text start feed count line h e w n = record {
  lines = h.lines ++ line ∷ [];
  tail = [];
  split = one_more text start feed line h.lines e w h.split;
  number = omega (arith, h.number, length-append h.lines (line ∷ []));
  ends = inl (record { before = h.lines; none = h.none; lines_are = ap (λ x. h.lines ++ x ∷ []) n; no_tail = refl });
}

-- no line is
pub head_open : (text : List ℕ) (start count : ℕ) → HeadSoFar text start count → is_without 10 (drop start text) ≡ true → IsHead text (length text) count
head_open text start count h w = record {
  lines = h.lines;
  tail = drop start text;
  split =
      subst (λ xs. IsSplit xs h.lines (drop start text)) (take-append-drop start text ∙ sym (take_all (length text) text (omega arith)))
      (subst (λ ls. IsSplit (take start text ++ drop start text) ls (drop start text)) (append-nil h.lines) (split_append (take start text) (drop start text) h.lines [] (drop start text) h.split (split_none (drop start text) w)));
  number = h.number;
  ends = inr (omega arith, h.none);
}

-- it has so many lines as the scene
pub head_count : (text : List ℕ) (start count : ℕ) (scene : Scene) → IsHead text start count → IsScene scene → IsText (take start text) scene → count ≡ length (scene_lines scene)
head_count text start count scene h ok t =
    let whole : IsSplit (take start text) (scene_lines scene) [] = subst (λ xs. IsSplit xs (scene_lines scene) []) (sym t) (scene_split scene ok) in
    sym h.number ∙ ap length (one_split (take start text) h.lines (scene_lines scene) h.tail [] h.split whole).0

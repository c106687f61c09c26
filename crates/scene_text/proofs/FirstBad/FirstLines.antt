-- The first lines of a scene's text are those whose lines are taken.
use Rattle.std.proofs.Common.{List, [], ap, append_assoc, arith, map, refl, sym, ℕ, ◌++◌, ◌∙◌, ◌∷◌, ◌≡◌, ◌≤◌, drop, take}
use Rattle.std.proofs.lemmas.List.{map-append, take-append-drop}
use Rattle.scene_text.proofs.Taking.LinesComplete.{complete}
use Rattle.scene_text.proofs.Taking.LedToEnd.{AreTaken, begins_taken, ended, taken_begins}
use Rattle.scene_text.proofs.Taking.HeadLines.{mk}
use Rattle.scene_text.proofs.Spelling.LinesSpelled.{lines_form, spelled}
use Rattle.scene_text.proofs.Spelling.TextsApart.{line_text-injective}
use Rattle.scene_text.proofs.Taking.WholeDrafts.{Whole, limits_of, ranged_whole, scene_whole, whole_ranged, whole_scene}
use Rattle.scene_text.proofs.Taking.WiderLimits.{lines_more, wider, within_first, within_second}
use Rattle.scene_text.specs.FirstBad.{IsInRange, IsStart, IsWhole}
use Rattle.scene_text.specs.LineOrder.Place.{AfterEnd}
use Rattle.scene_text.specs.LineTexts.{IsForm, line_text}
use Rattle.scene_text.specs.SceneLines.{lines_of}
use Rattle.scene_text.specs.Taking.{Limits, State, at_start, scene_limits, take_lines}
use Rattle.scene_text.specs.Taking.Taken.{Now}
use Rattle.scene_text.specs.declared.lines.Line.{Line}
use Rattle.str_scene.specs.Lists.{Each}
use Rattle.str_scene.specs.SceneLimits.{IsScene}
use Rattle.str_scene.specs.Scenes.{Scene}
use Rattle.str_scene.specs.Spelling.{scene_lines}

-- texts of lines of the form are of one list of lines
pub texts_same : (ls ms : List Line) → Each IsForm ls → Each IsForm ms → map line_text ls ≡ map line_text ms → ls ≡ ms
texts_same [] [] f g e = refl
texts_same [] (m ∷ ms) f g e = absurd (cc)
texts_same (l ∷ ls) [] f g e = absurd (cc)
texts_same (l ∷ ls) (m ∷ ms) f g e =
    let text : line_text l ≡ line_text m = cc in
    let texts : map line_text ls ≡ map line_text ms = cc in
    let first : l ≡ m = line_text-injective l m f.0 g.0 text in
    let rest : ls ≡ ms = texts_same ls ms f.1 g.1 texts in
    cc (first, rest)

-- lines whose texts are in two parts
pub record Parted (ls : List Line) (xs ys : List (List ℕ)) : Type 0 where
  pub first : List Line
  pub second : List Line
  pub both : ls ≡ first ++ second
  pub first_is : map line_text first ≡ xs
  pub second_is : map line_text second ≡ ys
  pub first_form : Each IsForm first
  pub second_form : Each IsForm second

pub parted : (ls : List Line) (xs ys : List (List ℕ)) → Each IsForm ls → map line_text ls ≡ xs ++ ys → Parted ls xs ys
parted ls [] ys f e = record { first = []; second = ls; both = refl; first_is = refl; second_is = e; first_form = tt; second_form = f }
parted [] (x ∷ xs) ys f e = absurd (cc)
parted (l ∷ ls) (x ∷ xs) ys f e =
    let texts : map line_text ls ≡ xs ++ ys = cc in
    let text : line_text l ≡ x = cc in
    let rest = parted ls xs ys f.1 texts in
    let rest_is : map line_text rest.first ≡ xs = rest.first_is in
    record {
      first = l ∷ rest.first;
      second = rest.second;
      both = ap (λ zs. l ∷ zs) rest.both;
      first_is = cc (text, rest_is);
      second_is = rest.second_is;
      first_form = (f.0, rest.first_form);
      second_form = rest.second_form;
    }

-- the texts are those of lines of the form that are taken
pub record TextsTaken (limits : Limits) (lines : List (List ℕ)) : Type 0 where
  pub read : List Line
  pub forms : Each IsForm read
  pub texts : map line_text read ≡ lines
  pub taken : AreTaken limits read

-- where the lines of a scene begin with these texts, they are taken
begin_taken : (limits : Limits) (scene : Scene) (lines rest : List (List ℕ)) → Whole limits scene → map line_text (lines_of scene) ≡ lines ++ rest → TextsTaken limits lines
begin_taken limits scene lines rest w e =
    let p = parted (lines_of scene) lines rest (lines_form limits scene w) e in
    record {
      read = p.first;
      forms = p.first_form;
      texts = p.first_is;
      taken = begins_taken limits p.first (record { scene = scene; rest = p.second; whole = w; text = p.both });
    }

-- the first lines of a scene's text are taken
pub start_taken : (lines : List (List ℕ)) → IsStart lines → TextsTaken scene_limits lines
start_taken lines s = let w = scene_whole s.scene s.is_scene in begin_taken scene_limits s.scene lines s.rest w (spelled s.scene w ∙ s.text)

-- and lines that are taken are the first of a scene's text
pub taken_start : (lines : List (List ℕ)) → TextsTaken scene_limits lines → IsStart lines
taken_start lines t =
    let b = taken_begins scene_limits t.read t.taken.state (omega arith) (omega arith) t.forms t.taken.lead in
    record {
      scene = b.scene;
      rest = map line_text b.rest;
      is_scene = whole_scene b.scene b.whole;
      text =
          sym (spelled b.scene b.whole) ∙ (ap (map line_text) b.text ∙ (map-append line_text t.read b.rest ∙ ap (λ xs. xs ++ map line_text b.rest) t.texts));
    }

-- where all numbers are in range, the lines are taken within some limits
pub in_range_taken : (lines : List (List ℕ)) → IsInRange lines → (limits : Limits) × TextsTaken limits lines
in_range_taken lines r = (limits_of r.scene, begin_taken (limits_of r.scene) r.scene lines r.rest (ranged_whole r.scene r.ranged) r.text)

-- and where they are taken within some limits, all numbers are in range
pub taken_in_range : (limits : Limits) (lines : List (List ℕ)) → 1 ≤ limits.parts → 1 ≤ limits.ops → TextsTaken limits lines → IsInRange lines
taken_in_range limits lines few some t =
    let b = taken_begins limits t.read t.taken.state few some t.forms t.taken.lead in
    record {
      scene = b.scene;
      rest = map line_text b.rest;
      ranged = whole_ranged limits b.scene b.whole;
      text = ap (map line_text) b.text ∙ (map-append line_text t.read b.rest ∙ ap (λ xs. xs ++ map line_text b.rest) t.texts);
    }

-- all lines of a scene's text lead to the end
pub whole_at_end : (lines : List (List ℕ)) (t : TextsTaken scene_limits lines) → IsWhole lines → t.taken.state.place ≡ AfterEnd
whole_at_end lines t w =
    let whole = scene_whole w.scene w.is_scene in
    let same : t.read ≡ lines_of w.scene =
    texts_same t.read (lines_of w.scene) t.forms (lines_form scene_limits w.scene whole) (t.texts ∙ (sym w.text ∙ sym (spelled w.scene whole))) in
    let end : Now t.taken.state ≡ Now (mk AfterEnd w.scene []) = sym t.taken.lead ∙ (ap (take_lines scene_limits at_start) same ∙ complete scene_limits w.scene whole) in
    let state : t.taken.state ≡ mk AfterEnd w.scene [] = cc in
    ap (λ x. x.place) state

-- and lines that lead to the end are all of a scene's text
pub end_scene : (ls : List Line) (s : State) → Each IsForm ls → take_lines scene_limits at_start ls ≡ Now s → s.place ≡ AfterEnd → IsScene s.draft × (map line_text ls ≡ scene_lines s.draft)
end_scene ls s form e at =
    let d = ended scene_limits ls s form e at in
    (whole_scene s.draft d.whole, ap (map line_text) (sym d.text) ∙ spelled s.draft d.whole)

-- the first of the first lines
pub start_first : (lines : List (List ℕ)) (n : ℕ) → IsStart lines → IsStart (take n lines)
start_first lines n s = record {
  scene = s.scene;
  rest = drop n lines ++ s.rest;
  is_scene = s.is_scene;
  text = s.text ∙ (ap (λ xs. xs ++ s.rest) (sym (take-append-drop n lines)) ∙ append_assoc (take n lines) (drop n lines) s.rest);
}

-- lines of two limits lead to one state
pub one_state : (a b : Limits) (ls : List Line) (s t : State) → take_lines a at_start ls ≡ Now s → take_lines b at_start ls ≡ Now t → s ≡ t
one_state a b ls s t e f =
    let first : take_lines (wider a b) at_start ls ≡ Now s = lines_more a (wider a b) ls at_start s (within_first a b) e in
    let second : take_lines (wider a b) at_start ls ≡ Now t = lines_more b (wider a b) ls at_start t (within_second a b) f in
    let same : Now s ≡ Now t = sym first ∙ second in
    cc

-- scenes of one text are one
pub one_scene : (s t : Scene) → IsScene s → IsScene t → scene_lines s ≡ scene_lines t → s ≡ t
one_scene s t p q e =
    let v = scene_whole s p in
    let w = scene_whole t q in
    let lines : lines_of s ≡ lines_of t = texts_same (lines_of s) (lines_of t) (lines_form scene_limits s v) (lines_form scene_limits t w) (spelled s v ∙ (e ∙ sym (spelled t w))) in
    let ends : Now (mk AfterEnd s []) ≡ Now (mk AfterEnd t []) = sym (complete scene_limits s v) ∙ (ap (take_lines scene_limits at_start) lines ∙ complete scene_limits t w) in
    let states : mk AfterEnd s [] ≡ mk AfterEnd t [] = cc in
    ap (λ x. x.draft) states

-- The first line of a text, and the faults of a text.
use Rattle.std.proofs.Common.{List, None, Option, Some, [], ap, arith, drop, inl, inr, length, refl, subst, sym, take, true, ℕ, ◌++◌, ◌+◌, ◌∙◌, ◌∷◌, ◌≡◌, ◌≤◌, ◌⊎◌, take_all}
use Rattle.std.proofs.lemmas.Option.{none-some, same_Some}
use Rattle.std.specs.Option.{SomeIff}
use Rattle.scene_text.proofs.FirstBad.ReaderKnows.{bad_end, bad_form, bad_line, bad_tail, reached_line, reached_start}
use Rattle.scene_text.specs.FirstBad.{FirstBad}
use Rattle.scene_text.specs.LineOrder.Place.{AfterVersion}
use Rattle.scene_text.specs.LineReading.{IsReadAs, is_without}
use Rattle.scene_text.specs.LineTexts.{Fits, IsForm, line_text}
use Rattle.scene_text.specs.Reaching.{Reached}
use Rattle.scene_text.specs.Reading.{IsBadText, IsFaultOf, TakesText, fault_at, version_given}
use Rattle.scene_text.specs.Taking.{State, at_start, scene_limits, take_line}
use Rattle.scene_text.specs.Taking.Taken.{Refused}
use Rattle.scene_text.specs.declared.lines.Line.{Line}
use Rattle.scene_text.specs.declared.lines.Line.TheVariants.{Version as LVersion}
use Rattle.scene_text.specs.declared.lines.ReadLine.{ReadLine}
use Rattle.str_scene.specs.Drafts.{empty_draft}
use Rattle.str_scene.specs.declared.faults.SceneFault.{SceneFault}
use Rattle.str_scene.specs.declared.faults.SceneFault.TheVariants.{Count, Form, Memory, Range}
use Rattle.str_scene.specs.declared.faults.Why.TheVariants.{Count as Many, Cut, Form as No, Range as Out}

-- no line feed in the text
pub first_cut : (text : List ℕ) → is_without 10 (drop 0 text) ≡ true → FirstBad text 1 Cut
first_cut [] none = bad_end [] 0 at_start reached_start (λ e. absurd (cc))
first_cut (b ∷ bs) none = bad_tail (b ∷ bs) 0 0 at_start reached_start (omega arith) none

-- the first line is of no form
pub first_none : (text line rest : List ℕ) → is_without 10 line ≡ true → drop 0 text ≡ line ++ 10 ∷ rest → ((l : Line) → IsForm l → ¬ (line ≡ line_text l)) → FirstBad text 1 No
first_none text line rest whole e none = bad_form text 0 0 line rest at_start reached_start whole e none

-- the line's version, where it is the version's
version_is : (o : Option Line) (v : ℕ) → version_given o ≡ Some v → o ≡ Some (LVersion v)
version_is None v e = absurd (none-some _ e)
version_is (Some (LVersion w)) v e = ap (λ n. Some (LVersion n)) (same_Some _ _ e)
version_is (Some _) v e = absurd (none-some _ e)

-- the first line is the version's
pub first_read : (text line : List ℕ) (feed v : ℕ) (read : ReadLine) → IsReadAs line read → version_given read.line ≡ Some v → take (feed + 1) text ≡ take 0 text ++ (line ++ 10 ∷ []) →
    Reached (take (feed + 1) text) 1 (record { place = AfterVersion; draft = empty_draft v; ops = [] }) × ((v ≡ 1) ⊎ (v ≡ 2))
first_read text line feed v read k given passed =
    let same : LVersion v ≡ k.line = (subst (λ o. SomeIff o (Fits k.line) k.line) (version_is read.line v given) k.line_is).1 in
    let form : IsForm (LVersion v) = subst IsForm (sym same) k.form in
    (reached_line text 0 feed 0 line (LVersion v) at_start _ reached_start passed form (k.text_is ∙ ap line_text (sym same)) refl, form)

-- the first line is another
other_line : (l : Line) (o : Option Line) → version_given o ≡ None → SomeIff o (Fits l) l → take_line scene_limits at_start l ≡ Refused No
other_line (LVersion v) None e k = absurd (k tt)
other_line (LVersion v) (Some m) e k = absurd (none-some _ (sym (ap (λ x. version_given (Some x)) (sym k.1) ∙ e)))
other_line _ o e k = refl

pub first_other : (text line rest : List ℕ) (read : ReadLine) → is_without 10 line ≡ true → drop 0 text ≡ line ++ 10 ∷ rest → IsReadAs line read → version_given read.line ≡ None → FirstBad text 1 No
first_other text line rest read whole e k given =
    bad_line text 0 0 line rest k.line at_start No reached_start whole e k.form k.text_is (other_line k.line read.line given k.line_is)

-- a line for which the text is bad
pub fault_bad : (text : List ℕ) (start n : ℕ) (line rest : List ℕ) (s : State) (f : SceneFault) → Reached (take start text) n s → is_without 10 line ≡ true → drop start text ≡ line ++ 10 ∷ rest →
    IsBadText line s f → IsFaultOf text (fault_at (n + 1) f)
fault_bad text start n line rest s Form r whole e (inl none) = bad_form text start n line rest s r whole e none
fault_bad text start n line rest s Form r whole e (inr b) = bad_line text start n line rest b.line s No r whole e b.form b.text_is b.refused
fault_bad text start n line rest s Range r whole e b = bad_line text start n line rest b.line s Out r whole e b.form b.text_is b.refused
fault_bad text start n line rest s Count r whole e b = bad_line text start n line rest b.line s Many r whole e b.form b.text_is b.refused
fault_bad text start n line rest s Memory r whole e b = tt

-- one line more
pub next_reached : (text : List ℕ) (start feed n : ℕ) (line : List ℕ) (s t : State) → Reached (take start text) n s → take (feed + 1) text ≡ take start text ++ (line ++ 10 ∷ []) →
    TakesText line s t → Reached (take (feed + 1) text) (n + 1) t
next_reached text start feed n line s t r passed k = reached_line text start feed n line k.line s t r passed k.form k.text_is k.taken

-- all of the text is read
pub all_read : (text : List ℕ) (start n : ℕ) (s : State) → length text ≤ start → Reached (take start text) n s → Reached text n s
all_read text start n s h r = subst (λ x. Reached x n s) (take_all start text h) r

-- What is read of an answer's line.
use Rattle.std.proofs.Common.{Err, List, None, Ok, Option, Result, Some, ap, inl, inr, refl, subst, sym, true, ℕ, ◌++◌, ◌∙◌, ◌∷◌, ◌≡◌, ◌⊎◌}
use Rattle.std.specs.Option.{option_zip}
use Rattle.std.specs.Prelude.{IfErr, IfOk}
use Rattle.history_reading.proofs.AnswersApart.{answer_parts}
use Rattle.history_reading.proofs.WordsApart.{name_text-space}
use Rattle.history_reading.proofs.Spelled.Zips.{zip_none, zip_some}
use Rattle.history_reading.specs.HistoryLines.{AnyAnswer, AnyOutcome, IsFormOutcome, answer_text, any_answer, any_outcome, end_text, name_text, place_text}
use Rattle.history_reading.specs.HistoryRanges.{IsNamed, IsOfScene, IsPlaced}
use Rattle.history_reading.specs.Parts.{IsAnswerParts, IsBadAnswer, IsBadEnd, KnownItself, SpellsAnswer, SpellsEnd, SpellsName, SpellsNoAnswer, SpellsNoEnd, SpellsNoName, SpellsNoPlace, SpellsPlace, SpellsWideAnswer, SpellsWideEnd, wide_fault}
use Rattle.scene_text.specs.LineReading.{is_without}
use Rattle.str_base.specs.declared.names.Ts.{Ts}
use Rattle.str_base.specs.declared.names.TxId.{TxId}
use Rattle.str_model.specs.declared.messages.Answer.{Answer}
use Rattle.str_model.specs.declared.messages.Outcome.{Outcome}
use Rattle.str_scene.proofs.Without.{is_without-here, split_unique}
use Rattle.str_scene.specs.Scenes.{Scene}
use Rattle.str_scene.specs.declared.faults.SceneFault.{SceneFault}
use Rattle.str_scene.specs.declared.faults.SceneFault.TheVariants.{Count, Form, Memory, Range}
use Rattle.str_scene.specs.declared.names.TxPlace.{TxPlace}

-- ---- the parts of an answer

pub answer_one_word : (text : List ℕ) → is_without 32 text ≡ true → SpellsNoAnswer text
answer_one_word text w a f e =
    is_without-here 32 (name_text a.tx) (place_text a.place ++ 32 ∷ end_text a.rs a.outcome) (subst (λ xs. is_without 32 xs ≡ true) e w)

pub answer_two_words : (text name rest : List ℕ) → text ≡ name ++ 32 ∷ rest → is_without 32 name ≡ true → is_without 32 rest ≡ true → SpellsNoAnswer text
answer_two_words text name rest e g w a f t =
    let after : List ℕ = place_text a.place ++ 32 ∷ end_text a.rs a.outcome in
    let same : rest ≡ after = (split_unique 32 name rest (name_text a.tx) after g (name_text-space a.tx) (sym e ∙ t)).1 in
    is_without-here 32 (place_text a.place) (end_text a.rs a.outcome) (subst (λ xs. is_without 32 xs ≡ true) same w)

pub answer_is : (text name rest place end : List ℕ) → text ≡ name ++ 32 ∷ rest → is_without 32 name ≡ true → rest ≡ place ++ 32 ∷ end → is_without 32 place ≡ true → IsAnswerParts text name place end
answer_is text name rest place end e f g h = record { text_is = e ∙ ap (λ xs. name ++ 32 ∷ xs) g; name_word = f; place_word = h }

parts_of : (text n p e : List ℕ) (a : AnyAnswer) → IsAnswerParts text n p e → text ≡ answer_text a → (n ≡ name_text a.tx) × (p ≡ place_text a.place) × (e ≡ end_text a.rs a.outcome)
parts_of text n p e a k t = answer_parts text n (p ++ 32 ∷ e) p e a k.text_is k.name_word refl k.place_word t

-- a part that is none
pub answer_no_name : (text n p e : List ℕ) → IsAnswerParts text n p e → SpellsNoName n → SpellsNoAnswer text
answer_no_name text n p e k none a f t = none a.tx (parts_of text n p e a k t).0

pub answer_no_place : (text n p e : List ℕ) → IsAnswerParts text n p e → SpellsNoPlace p → SpellsNoAnswer text
answer_no_place text n p e k none a f t = none a.place (parts_of text n p e a k t).1

answer_no_end : (text n p e : List ℕ) → IsAnswerParts text n p e → SpellsNoEnd e → SpellsNoAnswer text
answer_no_end text n p e k none a f t = none a.rs a.outcome f (parts_of text n p e a k t).2

-- ---- the answer

answer_text_is : (text n p e : List ℕ) (a : AnyAnswer) → IsAnswerParts text n p e → n ≡ name_text a.tx → p ≡ place_text a.place → e ≡ end_text a.rs a.outcome → text ≡ answer_text a
answer_text_is text n p e a k f g h = k.text_is ∙ (λ i. f i ++ 32 ∷ (g i ++ 32 ∷ h i))

abbrev answer_of : TxId → TxPlace → Ts × Outcome → Answer
answer_of tx place end = record { tx = tx; place = place; rs = end.0; outcome = end.1 }

answer_known : (scene : Scene) (text n p e : List ℕ) (tx : TxId) (place : TxPlace) (end : Ts × Outcome) → IsAnswerParts text n p e → SpellsName scene.nodes n (Some tx) → SpellsPlace scene.sessions p (Some place) → SpellsEnd scene e end →
    SpellsAnswer scene text (answer_of tx place end)
answer_known scene text n p e tx place end k s t u = record {
  ranged = record { tx = s.kept_is.0; place = t.kept_is.0; rs = u.ranged.0; outcome = u.ranged.1 };
  text_is = answer_text_is text n p e (any_answer scene.keys (answer_of tx place end)) k (s.text_is ∙ ap name_text (sym s.kept_is.1)) (t.text_is ∙ ap place_text (sym t.kept_is.1)) u.text_is;
}

pub answer_read : (scene : Scene) (text n p e : List ℕ) (o : Option TxId) (q : Option TxPlace) (tx : TxId) (place : TxPlace) (rs : Ts) (outcome : Outcome) → IsAnswerParts text n p e → SpellsName scene.nodes n o → SpellsPlace scene.sessions p q →
    option_zip o q ≡ Some (tx, place) → SpellsEnd scene e (rs, outcome) → SpellsAnswer scene text (record { tx = tx; place = place; rs = rs; outcome = outcome })
answer_read scene text n p e o q tx place rs outcome k s t z u =
    let both = zip_some o q tx place z in
    answer_known scene text n p e tx place (rs, outcome) k (subst (SpellsName scene.nodes n) both.0 s) (subst (SpellsPlace scene.sessions p) both.1 t) u

-- ---- an answer that names what the scene does not have

wide_names : (scene : Scene) (text n p e : List ℕ) (o : Option TxId) (q : Option TxPlace) (rs : Ts) (outcome : AnyOutcome) → IsAnswerParts text n p e → SpellsName scene.nodes n o → SpellsPlace scene.sessions p q → option_zip o q ≡ None →
    IsFormOutcome outcome → e ≡ end_text rs outcome → SpellsWideAnswer scene text
wide_names scene text n p e o q rs outcome k s t z f h = record {
  answer = record { tx = s.name; place = t.place; rs = rs; outcome = outcome };
  form = f;
  text_is = answer_text_is text n p e (record { tx = s.name; place = t.place; rs = rs; outcome = outcome }) k s.text_is t.text_is h;
  wide = λ a of same. by a of (ap (λ x. x.tx) same) (ap (λ x. x.place) same) (zip_none o q z);
}
  where
    by : (a : Answer) → IsOfScene scene a → a.tx ≡ s.name → a.place ≡ t.place → (o ≡ None) ⊎ (q ≡ None) → ⊥
    by a of x y (inl none) = (subst (KnownItself (IsNamed scene.nodes) s.name) none s.kept_is) a.tx of.tx x
    by a of x y (inr none) = (subst (KnownItself (IsPlaced scene.sessions) t.place) none t.kept_is) a.place of.place y

-- whatever its end is
pub answer_wide : (scene : Scene) (text n p e : List ℕ) (o : Option TxId) (q : Option TxPlace) (end : Result (Ts × Outcome) SceneFault) → IsAnswerParts text n p e → SpellsName scene.nodes n o → SpellsPlace scene.sessions p q →
    option_zip o q ≡ None → ((d : Ts × Outcome) → end ≡ Ok d → SpellsEnd scene e d) → ((f : SceneFault) → end ≡ Err f → IsBadEnd scene e f) → IsBadAnswer scene text (wide_fault end)
answer_wide scene text n p e o q (Ok d) k s t z good bad = let u = good d refl in wide_names scene text n p e o q d.0 (any_outcome scene.keys d.1) k s t z u.form u.text_is
answer_wide scene text n p e o q (Err Form) k s t z good bad = answer_no_end text n p e k (bad Form refl)
answer_wide scene text n p e o q (Err Range) k s t z good bad = let u : SpellsWideEnd scene e = bad Range refl in wide_names scene text n p e o q u.rs u.outcome k s t z u.form u.text_is
answer_wide scene text n p e o q (Err Count) k s t z good bad =
    let u = (bad Count refl).spells in
    let end : Ts × Outcome = (bad Count refl).end in
    wide_names scene text n p e o q end.0 (any_outcome scene.keys end.1) k s t z u.form u.text_is
answer_wide scene text n p e o q (Err Memory) k s t z good bad = tt

-- the same from what its end ensures
pub answer_wide_at : (scene : Scene) (text n p e : List ℕ) (o : Option TxId) (q : Option TxPlace) (end : Result (Ts × Outcome) SceneFault) → IsAnswerParts text n p e → SpellsName scene.nodes n o → SpellsPlace scene.sessions p q →
    option_zip o q ≡ None → IfOk end (λ d. SpellsEnd scene e d) → IfErr end (λ f. IsBadEnd scene e f) → IsBadAnswer scene text (wide_fault end)
answer_wide_at scene text n p e o q (Ok d) k s t z good bad =
    answer_wide scene text n p e o q (Ok d) k s t z (λ x same. subst (SpellsEnd scene e) (ok_same d x same) good) (λ f same. absurd (cc))
  where
    ok_same : (a b : Ts × Outcome) → ◌≡◌ {A = Result (Ts × Outcome) SceneFault} (Ok a) (Ok b) → a ≡ b
    ok_same a b h = cc
answer_wide_at scene text n p e o q (Err f) k s t z good bad =
    answer_wide scene text n p e o q (Err f) k s t z (λ x same. absurd (cc)) (λ g same. subst (IsBadEnd scene e) (err_same f g same) bad)
  where
    err_same : (a b : SceneFault) → ◌≡◌ {A = Result (Ts × Outcome) SceneFault} (Err a) (Err b) → a ≡ b
    err_same a b h = cc

-- an end that is bad
pub answer_bad : (scene : Scene) (text n p e : List ℕ) (o : Option TxId) (q : Option TxPlace) (tx : TxId) (place : TxPlace) (f : SceneFault) → IsAnswerParts text n p e → SpellsName scene.nodes n o → SpellsPlace scene.sessions p q →
    option_zip o q ≡ Some (tx, place) → IsBadEnd scene e f → IsBadAnswer scene text f
answer_bad scene text n p e o q tx place Form k s t z b = answer_no_end text n p e k b
answer_bad scene text n p e o q tx place Range k s t z b = record {
  answer = record { tx = s.name; place = t.place; rs = b.rs; outcome = b.outcome };
  form = b.form;
  text_is = answer_text_is text n p e (record { tx = s.name; place = t.place; rs = b.rs; outcome = b.outcome }) k s.text_is t.text_is b.text_is;
  wide = λ a of same. b.wide (a.rs, a.outcome) (of.rs, of.outcome) (λ i. ((same i).rs, (same i).outcome));
}
answer_bad scene text n p e o q tx place Count k s t z b = record {
  answer = answer_of tx place b.end;
  spells = answer_read scene text n p e o q tx place b.end.0 b.end.1 k s t z b.spells;
  long = b.long;
}
answer_bad scene text n p e o q tx place Memory k s t z b = tt

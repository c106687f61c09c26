-- What is read of the ends of answers: commits and aborts.
use Rattle.std.proofs.Common.{Bool, List, None, Option, Some, [], ap, arith, false, get_or, inl, inr, refl, subst, sym, true, ℕ, ◌++◌, ◌<◌, ◌∙◌, ◌∷◌, ◌≡◌, ◌⊎◌}
use Rattle.std.proofs.lemmas.List.{append_cancel_left}
use Rattle.std.specs.Option.{option_zip}
use Rattle.std.specs.Prelude.{IfErr, IfOk, Result}
use Rattle.history_reading.proofs.AnswersApart.{abort_parts, commit_parts}
use Rattle.history_reading.proofs.Spelled.Zips.{zip_none, zip_some}
use Rattle.history_reading.specs.HistoryLines.{Aborts, AnyCause, AnyGet, Commits, IsFormCause, IsFormGet, abort_text, any_cause, any_gets, any_outcome, cause_text, commit_text, fc_text, gets_text}
use Rattle.history_reading.specs.HistoryRanges.{IsCause, IsFinal, IsOutcome, IsTime}
use Rattle.history_reading.specs.Histories.{gets_of}
use Rattle.history_reading.specs.Parts.{AreGots, IsAbortParts, IsAfterWord, IsBadEnd, IsCommitParts, IsEnd, Known, KnownItself, SpellsCause, SpellsEnd, SpellsFinal, SpellsGets, SpellsLongEnd, SpellsNoAbort, SpellsNoCause, SpellsNoCommit, SpellsNoEnd, SpellsNoFinal, SpellsNoGets, SpellsTime, SpellsWideEnd, any_end, kept_gets}
use Rattle.scene_text.specs.LineReading.{SpellsNone, is_without}
use Rattle.scene_text.specs.Numerals.{numeral}
use Rattle.scene_text.proofs.Spelling.Numerals.{numeral-without}
use Rattle.str_base.specs.declared.limits.TheConstants.{OPERATIONS}
use Rattle.str_base.specs.declared.names.Cause.{Cause}
use Rattle.str_base.specs.declared.names.Ts.{Ts}
use Rattle.str_model.specs.declared.messages.Outcome.{Outcome}
use Rattle.str_model.specs.declared.messages.Outcome.TheVariants.{Aborted, Committed}
use Rattle.str_model.specs.declared.names.Got.{Got}
use Rattle.str_scene.proofs.Without.{is_without-here, split_unique}
use Rattle.str_scene.specs.Lists.{Each}
use Rattle.str_scene.specs.Scenes.{Scene}
use Rattle.str_scene.specs.declared.faults.SceneFault.{SceneFault}

abbrev commit_word : List ℕ
commit_word = 99 ∷ 111 ∷ 109 ∷ 109 ∷ 105 ∷ 116 ∷ 32 ∷ []

abbrev abort_word : List ℕ
abort_word = 97 ∷ 98 ∷ 111 ∷ 114 ∷ 116 ∷ 32 ∷ []

abbrev rs_word : List ℕ
rs_word = 114 ∷ 115 ∷ 61 ∷ []

-- ---- the parts of a commit

pub commit_no_rs : (text : List ℕ) → ((rest : List ℕ) → ¬ (text ≡ 114 ∷ 115 ∷ 61 ∷ rest)) → SpellsNoCommit text
commit_no_rs text none rs fc gets f e = none _ e

pub commit_one_word : (text more : List ℕ) → text ≡ 114 ∷ 115 ∷ 61 ∷ more → is_without 32 more ≡ true → SpellsNoCommit text
commit_one_word text more e w rs fc gets f t =
    is_without-here 32 (numeral rs.0) (102 ∷ 99 ∷ 61 ∷ (fc_text fc ++ gets_text gets)) (subst (λ xs. is_without 32 xs ≡ true) (append_cancel_left rs_word _ _ (sym e ∙ t)) w)

pub commit_no_fc : (text more r rest : List ℕ) → text ≡ 114 ∷ 115 ∷ 61 ∷ more → more ≡ r ++ 32 ∷ rest → is_without 32 r ≡ true → ((after : List ℕ) → ¬ (rest ≡ 102 ∷ 99 ∷ 61 ∷ after)) → SpellsNoCommit text
commit_no_fc text more r rest e g w none rs fc gets f t =
    let tail : List ℕ = 102 ∷ 99 ∷ 61 ∷ (fc_text fc ++ gets_text gets) in
    none (fc_text fc ++ gets_text gets) (split_unique 32 r rest (numeral rs.0) tail w (numeral-without 32 rs.0 refl) (sym g ∙ append_cancel_left rs_word _ _ (sym e ∙ t))).1

pub commit_is : (text more r rest after f g : List ℕ) → text ≡ 114 ∷ 115 ∷ 61 ∷ more → more ≡ r ++ 32 ∷ rest → is_without 32 r ≡ true → rest ≡ 102 ∷ 99 ∷ 61 ∷ after → after ≡ f ++ g → is_without 32 f ≡ true → IsAfterWord g →
    IsCommitParts text r f g
commit_is text more r rest after f g e h w k l x y = record {
  text_is = e ∙ ap (λ xs. rs_word ++ xs) (h ∙ ap (λ xs. r ++ 32 ∷ xs) (k ∙ ap (λ xs. 102 ∷ 99 ∷ 61 ∷ xs) l));
  rs_word = w;
  fc_word = x;
  after = y;
}

-- ---- the parts of an abort

pub abort_no_rs : (text : List ℕ) → ((rest : List ℕ) → ¬ (text ≡ 114 ∷ 115 ∷ 61 ∷ rest)) → SpellsNoAbort text
abort_no_rs text none rs cause f e = none _ e

pub abort_one_word : (text more : List ℕ) → text ≡ 114 ∷ 115 ∷ 61 ∷ more → is_without 32 more ≡ true → SpellsNoAbort text
abort_one_word text more e w rs cause f t =
    is_without-here 32 (numeral rs.0) (cause_text cause) (subst (λ xs. is_without 32 xs ≡ true) (append_cancel_left rs_word _ _ (sym e ∙ t)) w)

pub abort_is : (text more r c : List ℕ) → text ≡ 114 ∷ 115 ∷ 61 ∷ more → more ≡ r ++ 32 ∷ c → is_without 32 r ≡ true → IsAbortParts text r c
abort_is text more r c e h w = record { text_is = e ∙ ap (λ xs. rs_word ++ xs) h; rs_word = w }

-- ---- what is no end

pub commit_no_end : (text : List ℕ) → SpellsNoCommit text → SpellsNoEnd (99 ∷ 111 ∷ 109 ∷ 109 ∷ 105 ∷ 116 ∷ 32 ∷ text)
commit_no_end text n rs (Commits fc gets) f e = n rs fc gets f (append_cancel_left commit_word _ _ e)
commit_no_end text n rs (Aborts cause) f e = absurd (omega (arith, ap (λ xs. get_or xs 0 0) e))

pub abort_no_end : (text : List ℕ) → SpellsNoAbort text → SpellsNoEnd (97 ∷ 98 ∷ 111 ∷ 114 ∷ 116 ∷ 32 ∷ text)
abort_no_end text n rs (Aborts cause) f e = n rs cause f (append_cancel_left abort_word _ _ e)
abort_no_end text n rs (Commits fc gets) f e = absurd (omega (arith, ap (λ xs. get_or xs 0 0) e))

pub no_end_word : (text : List ℕ) → ((rest : List ℕ) → ¬ (text ≡ 99 ∷ 111 ∷ 109 ∷ 109 ∷ 105 ∷ 116 ∷ 32 ∷ rest)) → ((rest : List ℕ) → ¬ (text ≡ 97 ∷ 98 ∷ 111 ∷ 114 ∷ 116 ∷ 32 ∷ rest)) → SpellsNoEnd text
no_end_word text c a rs (Commits fc gets) f e = c _ e
no_end_word text c a rs (Aborts cause) f e = a _ e

-- a part that is none
pub commit_no_time : (text r f g : List ℕ) → IsCommitParts text r f g → SpellsNone r → SpellsNoCommit text
commit_no_time text r f g p none rs fc gets k e = none rs.0 (commit_parts text r f g rs fc gets p.text_is p.rs_word p.fc_word p.after e).0

pub commit_no_final : (text r f g : List ℕ) → IsCommitParts text r f g → SpellsNoFinal f → SpellsNoCommit text
commit_no_final text r f g p none rs fc gets k e = none fc (commit_parts text r f g rs fc gets p.text_is p.rs_word p.fc_word p.after e).1

pub commit_no_gets : (text r f g : List ℕ) → IsCommitParts text r f g → SpellsNoGets g → SpellsNoCommit text
commit_no_gets text r f g p none rs fc gets k e = none gets k (commit_parts text r f g rs fc gets p.text_is p.rs_word p.fc_word p.after e).2

pub abort_no_time : (text r c : List ℕ) → IsAbortParts text r c → SpellsNone r → SpellsNoAbort text
abort_no_time text r c p none rs cause k e = none rs.0 (abort_parts text r c rs cause p.text_is p.rs_word e).0

pub abort_no_cause : (text r c : List ℕ) → IsAbortParts text r c → SpellsNoCause c → SpellsNoAbort text
abort_no_cause text r c p none rs cause k e = none cause k (abort_parts text r c rs cause p.text_is p.rs_word e).1

-- ---- commits

-- the text of a commit from its parts
commit_text_is : (text r f g : List ℕ) (rs : Ts) (fc : Option Ts) (gets : List AnyGet) → IsCommitParts text r f g → r ≡ numeral rs.0 → f ≡ fc_text fc → g ≡ gets_text gets → text ≡ commit_text rs fc gets
commit_text_is text r f g rs fc gets p e h k = p.text_is ∙ (λ i. 114 ∷ 115 ∷ 61 ∷ (e i ++ 32 ∷ 102 ∷ 99 ∷ 61 ∷ (h i ++ k i)))

commit_known : (scene : Scene) (text r f g : List ℕ) (t : Ts) (fc : Option Ts) (gets : List Got) → IsCommitParts text r f g → SpellsTime r (Some t) → SpellsFinal f (Some fc) → SpellsGets scene.keys g (Some gets) →
    SpellsEnd scene (99 ∷ 111 ∷ 109 ∷ 109 ∷ 105 ∷ 116 ∷ 32 ∷ text) (t, Committed fc gets)
commit_known scene text r f g t fc gets p x y z =
    let same : text ≡ commit_text t fc (any_gets scene.keys gets) =
    commit_text_is text r f g t fc (any_gets scene.keys gets) p (x.text_is ∙ ap (λ s. numeral s.0) (sym x.kept_is.1)) (y.text_is ∙ ap fc_text (sym y.kept_is.1)) (z.text_is ∙ ap gets_text (sym z.kept_is.1)) in
    record {
      ranged = (x.kept_is.0, (y.kept_is.0, z.kept_is.0));
      form = subst (Each IsFormGet) (sym z.kept_is.1) z.forms;
      text_is = ap (λ xs. commit_word ++ xs) same;
    }

pub commit_read : (scene : Scene) (text r f g : List ℕ) (o : Option Ts) (q : Option (Option Ts)) (u : Option (List Got)) (t : Ts) (fc : Option Ts) (gets : List Got) → IsCommitParts text r f g → SpellsTime r o → SpellsFinal f q → SpellsGets scene.keys g u →
    option_zip o q ≡ Some (t, fc) → u ≡ Some gets → SpellsEnd scene (99 ∷ 111 ∷ 109 ∷ 109 ∷ 105 ∷ 116 ∷ 32 ∷ text) (t, Committed fc gets)
commit_read scene text r f g o q u t fc gets p x y z e h =
    let both = zip_some o q t fc e in
    commit_known scene text r f g t fc gets p (subst (SpellsTime r) both.0 x) (subst (SpellsFinal f) both.1 y) (subst (SpellsGets scene.keys g) h z)

-- a timestamp that is too great
pub commit_wide_times : (scene : Scene) (text r f g : List ℕ) (o : Option Ts) (q : Option (Option Ts)) (u : Option (List Got)) → IsCommitParts text r f g → SpellsTime r o → SpellsFinal f q → SpellsGets scene.keys g u →
    option_zip o q ≡ None → SpellsWideEnd scene (99 ∷ 111 ∷ 109 ∷ 109 ∷ 105 ∷ 116 ∷ 32 ∷ text)
commit_wide_times scene text r f g o q u p x y z e = record {
  rs = x.time;
  outcome = Commits y.fc z.gets;
  form = z.forms;
  text_is = ap (λ xs. commit_word ++ xs) (commit_text_is text r f g x.time y.fc z.gets p x.text_is y.text_is z.text_is);
  wide = wide;
}
  where
    by : (rs : Ts) (fc : Option Ts) → IsTime rs → IsFinal fc → rs ≡ x.time → fc ≡ y.fc → (o ≡ None) ⊎ (q ≡ None) → ⊥
    by rs fc h k a b (inl none) = (subst (KnownItself IsTime x.time) none x.kept_is) rs h a
    by rs fc h k a b (inr none) = (subst (KnownItself IsFinal y.fc) none y.kept_is) fc k b

    by_end : (rs : Ts) (out : Outcome) → IsTime rs → IsOutcome scene out → rs ≡ x.time → any_outcome scene.keys out ≡ Commits y.fc z.gets → ⊥
    by_end rs (Committed fc gets) h k a b = let final : fc ≡ y.fc = cc in by rs fc h k.0 a final (zip_none o q e)
    by_end rs (Aborted cause) h k a b = absurd (cc)

    wide : (d : Ts × Outcome) → IsEnd scene d → ¬ (any_end scene.keys d ≡ (x.time, Commits y.fc z.gets))
    wide d h k = by_end d.0 d.1 h.0 h.1 (ap (λ r. r.0) k) (ap (λ r. r.1) k)

-- a get that is not of the scene
pub commit_wide_gets : (scene : Scene) (text r f g : List ℕ) (o : Option Ts) (q : Option (Option Ts)) (u : Option (List Got)) → IsCommitParts text r f g → SpellsTime r o → SpellsFinal f q → SpellsGets scene.keys g u →
    u ≡ None → SpellsWideEnd scene (99 ∷ 111 ∷ 109 ∷ 109 ∷ 105 ∷ 116 ∷ 32 ∷ text)
commit_wide_gets scene text r f g o q u p x y z e = record {
  rs = x.time;
  outcome = Commits y.fc z.gets;
  form = z.forms;
  text_is = ap (λ xs. commit_word ++ xs) (commit_text_is text r f g x.time y.fc z.gets p x.text_is y.text_is z.text_is);
  wide = wide;
}
  where
    by_end : (out : Outcome) → IsOutcome scene out → any_outcome scene.keys out ≡ Commits y.fc z.gets → ⊥
    by_end (Committed fc gets) k b = let same : any_gets scene.keys gets ≡ z.gets = cc in (subst (Known (AreGots scene.keys) (any_gets scene.keys) z.gets) e z.kept_is) gets k.1 same
    by_end (Aborted cause) k b = absurd (cc)

    wide : (d : Ts × Outcome) → IsEnd scene d → ¬ (any_end scene.keys d ≡ (x.time, Commits y.fc z.gets))
    wide d h k = by_end d.1 h.1 (ap (λ r. r.1) k)

-- more gets than there may be
pub commit_long : (scene : Scene) (text r f g : List ℕ) (o : Option Ts) (q : Option (Option Ts)) (u : Option (List Got)) (t : Ts) (fc : Option Ts) (gets : List Got) → IsCommitParts text r f g → SpellsTime r o → SpellsFinal f q → SpellsGets scene.keys g u →
    option_zip o q ≡ Some (t, fc) → u ≡ Some gets → OPERATIONS < gets_of (Committed fc gets) → SpellsLongEnd scene (99 ∷ 111 ∷ 109 ∷ 109 ∷ 105 ∷ 116 ∷ 32 ∷ text)
commit_long scene text r f g o q u t fc gets p x y z e h long = record { end = (t, Committed fc gets); spells = commit_read scene text r f g o q u t fc gets p x y z e h; long = long }

-- ---- aborts

abort_text_is : (text r c : List ℕ) (rs : Ts) (cause : AnyCause) → IsAbortParts text r c → r ≡ numeral rs.0 → c ≡ cause_text cause → text ≡ abort_text rs cause
abort_text_is text r c rs cause p e h = p.text_is ∙ (λ i. 114 ∷ 115 ∷ 61 ∷ (e i ++ 32 ∷ h i))

pub abort_read : (scene : Scene) (text r c : List ℕ) (o : Option Ts) (q : Option Cause) (t : Ts) (cause : Cause) → IsAbortParts text r c → SpellsTime r o → SpellsCause scene c q → option_zip o q ≡ Some (t, cause) →
    SpellsEnd scene (97 ∷ 98 ∷ 111 ∷ 114 ∷ 116 ∷ 32 ∷ text) (t, Aborted cause)
abort_read scene text r c o q t cause p s u e =
    let both = zip_some o q t cause e in
    let x : SpellsTime r (Some t) = subst (SpellsTime r) both.0 s in
    let y : SpellsCause scene c (Some cause) = subst (SpellsCause scene c) both.1 u in
    record {
      ranged = (x.kept_is.0, y.kept_is.0);
      form = subst IsFormCause (sym y.kept_is.1) y.form;
      text_is =
          ap (λ xs. abort_word ++ xs)
          (abort_text_is text r c t (any_cause scene.keys cause) p (x.text_is ∙ ap (λ z. numeral z.0) (sym x.kept_is.1)) (y.text_is ∙ ap cause_text (sym y.kept_is.1)));
    }

pub abort_wide : (scene : Scene) (text r c : List ℕ) (o : Option Ts) (q : Option Cause) → IsAbortParts text r c → SpellsTime r o → SpellsCause scene c q → option_zip o q ≡ None → SpellsWideEnd scene (97 ∷ 98 ∷ 111 ∷ 114 ∷ 116 ∷ 32 ∷ text)
abort_wide scene text r c o q p x y e = record {
  rs = x.time;
  outcome = Aborts y.cause;
  form = y.form;
  text_is = ap (λ xs. abort_word ++ xs) (abort_text_is text r c x.time y.cause p x.text_is y.text_is);
  wide = wide;
}
  where
    by : (rs : Ts) (cause : Cause) → IsTime rs → IsCause scene cause → rs ≡ x.time → any_cause scene.keys cause ≡ y.cause → (o ≡ None) ⊎ (q ≡ None) → ⊥
    by rs cause h k a b (inl none) = (subst (KnownItself IsTime x.time) none x.kept_is) rs h a
    by rs cause h k a b (inr none) = (subst (Known (IsCause scene) (any_cause scene.keys) y.cause) none y.kept_is) cause k b

    by_end : (rs : Ts) (out : Outcome) → IsTime rs → IsOutcome scene out → rs ≡ x.time → any_outcome scene.keys out ≡ Aborts y.cause → ⊥
    by_end rs (Aborted cause) h k a b = let same : any_cause scene.keys cause ≡ y.cause = cc in by rs cause h k a same (zip_none o q e)
    by_end rs (Committed fc gets) h k a b = absurd (cc)

    wide : (d : Ts × Outcome) → IsEnd scene d → ¬ (any_end scene.keys d ≡ (x.time, Aborts y.cause))
    wide d h k = by_end d.0 d.1 h.0 h.1 (ap (λ r. r.0) k) (ap (λ r. r.1) k)

-- an abort has no gets
pub abort_few : (cause : Cause) → ¬ (OPERATIONS < gets_of (Aborted cause))
abort_few cause l = omega (arith, l)

-- what is kept of gets
pub kept_all : (all : Bool) (gets : List Got) → all ≡ true → kept_gets all gets ≡ Some gets
kept_all true gets e = refl
kept_all false gets e = absurd (cc)

pub kept_none : (all : Bool) (gets : List Got) → all ≡ false → kept_gets all gets ≡ None
kept_none true gets e = absurd (cc)
kept_none false gets e = refl

-- what holds of an end holds of an equal text
pub end_from : (scene : Scene) (text other : List ℕ) (r : Result (Ts × Outcome) SceneFault) → text ≡ other → IfOk r (λ e. SpellsEnd scene other e) → IfOk r (λ e. SpellsEnd scene text e)
end_from scene text other r e h = subst (λ xs. IfOk r (λ d. SpellsEnd scene xs d)) (sym e) h

pub bad_end_from : (scene : Scene) (text other : List ℕ) (r : Result (Ts × Outcome) SceneFault) → text ≡ other → IfErr r (λ f. IsBadEnd scene other f) → IfErr r (λ f. IsBadEnd scene text f)
bad_end_from scene text other r e h = subst (λ xs. IfErr r (λ f. IsBadEnd scene xs f)) (sym e) h

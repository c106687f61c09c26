-- An answer or an end line after some answers, which is taken or refused.
use Rattle.std.proofs.Common.{Bool, List, None, Option, Some, [], ap, arith, false, filter, get_or, if◌then◌else◌, inl, inr, length, length-append, not, refl, subst, sym, true, ℕ, ◌++◌, ◌+◌, ◌∙◌, ◌∷◌, ◌≡◌, ◌≤◌}
use Rattle.std.proofs.lemmas.List.{append_cancel_left}
use Rattle.std.proofs.lemmas.List.Elements.{filter-append}
use Rattle.std.proofs.lemmas.List.Sums.{length-filter}
use Rattle.std.specs.Option.{SomeIff}
use Rattle.history_reading.proofs.AnswersApart.{answer_first}
use Rattle.history_reading.specs.Histories.{IsEnding, aborts_in, commits_in}
use Rattle.history_reading.specs.HistoryLines.{counts_text, numbers_text}
use Rattle.history_reading.specs.Parts.{AreSmall, IsBadAnswer, SpellsAnswer, SpellsNoAnswer, SpellsNoNumbers, SpellsNumbers, ending_of}
use Rattle.history_reading.specs.Reading.{IsBadEnding, IsBadOne, IsOneMore, IsRefused, SpellsNoCounts, SpellsWideCounts}
use Rattle.history_reading.specs.declared.endings.Ending.{Ending}
use Rattle.str_base.specs.declared.limits.TheConstants.{TRANSACTIONS}
use Rattle.str_model.specs.Lines.{Counts, is_commit}
use Rattle.str_model.specs.declared.messages.Answer.{Answer}
use Rattle.str_scene.specs.Scenes.{Scene}
use Rattle.str_scene.specs.declared.faults.SceneFault.{SceneFault}
use Rattle.str_scene.specs.declared.faults.SceneFault.TheVariants.{Count, Form, Memory, Range}

-- ---- how many commits and aborts

-- those that pass a test and those that do not
parts_length : {A : Type 0} (p : A → Bool) (xs : List A) → length (filter p xs) + length (filter (λ x. not (p x)) xs) ≡ length xs
parts_length p [] = refl
parts_length {A} p (x ∷ xs) = by (parts_length p xs) (p x)
  where
    by : length (filter p xs) + length (filter (λ y. not (p y)) xs) ≡ length xs → (b : Bool) →
        length (if b then x ∷ filter p xs else filter p xs) + length (if not b then x ∷ filter (λ y. not (p y)) xs else filter (λ y. not (p y)) xs) ≡ length (x ∷ xs)
    by rest true = omega (arith, rest)
    by rest false = omega (arith, rest)

pub commits_and_aborts : (as' : List Answer) → commits_in as' + aborts_in as' ≡ length as'
commits_and_aborts as' =
    omega (arith, parts_length (λ (a : Answer). is_commit a.outcome) as', length-filter (λ (a : Answer). is_commit a.outcome) as', length-filter (λ (a : Answer). not (is_commit a.outcome)) as')

-- one answer more
pub commits_more : (as' : List Answer) (a : Answer) → commits_in (as' ++ a ∷ []) ≡ commits_in as' + commits_in (a ∷ [])
commits_more as' a =
    let p : Answer → Bool = λ b. is_commit b.outcome in
    omega (arith, length-filter p (as' ++ a ∷ []), length-filter p as', length-filter p (a ∷ []), ap length (filter-append p as' (a ∷ [])), length-append (filter p as') (filter p (a ∷ [])))

-- ---- end lines

abbrev end_word : List ℕ
end_word = 101 ∷ 110 ∷ 100 ∷ 32 ∷ []

pub no_counts_text : (text : List ℕ) → SpellsNoNumbers text → SpellsNoCounts (101 ∷ 110 ∷ 100 ∷ 32 ∷ text)
no_counts_text text none c e = none c (append_cancel_left end_word _ _ e)

-- the numbers of an end line that counts at most 1,024 answers have 64 bits
ending_small : (as' : List Answer) (c : Counts) → length as' ≤ 1024 → IsEnding as' c → AreSmall c
ending_small as' c few e = record {
  commits = omega (arith, e.commits, commits_and_aborts as');
  aborts = omega (arith, e.aborts, commits_and_aborts as');
  held = e.held;
  unbegun = e.unbegun;
  messages = e.messages;
}

pub wide_counts : (as' : List Answer) (text : List ℕ) (o : Option Ending) → length as' ≤ 1024 → SpellsNumbers text o → o ≡ None → SpellsWideCounts as' (101 ∷ 110 ∷ 100 ∷ 32 ∷ text)
wide_counts as' text o few s e = record {
  counts = s.counts;
  text_is = ap (λ xs. end_word ++ xs) s.text_is;
  wide = λ k. (subst (λ x. SomeIff x (AreSmall s.counts) (ending_of s.counts)) e s.kept_is) (ending_small as' s.counts few k);
}

-- what is kept of the numbers
known : (text : List ℕ) (o : Option Ending) (n : Ending) (s : SpellsNumbers text o) → o ≡ Some n → AreSmall s.counts × (n ≡ ending_of s.counts)
known text o n s e = subst (λ x. SomeIff x (AreSmall s.counts) (ending_of s.counts)) e s.kept_is

pub other_counts : (as' : List Answer) (text : List ℕ) (o : Option Ending) (n : Ending) → SpellsNumbers text o → o ≡ Some n → (n.commits ≡ commits_in as' → n.aborts ≡ aborts_in as' → ⊥) → SpellsWideCounts as' (101 ∷ 110 ∷ 100 ∷ 32 ∷ text)
other_counts as' text o n s e other =
    let k = known text o n s e in
    record {
      counts = s.counts;
      text_is = ap (λ xs. end_word ++ xs) s.text_is;
      wide = λ h. other (ap (λ z. z.commits) k.1 ∙ h.commits) (ap (λ z. z.aborts) k.1 ∙ h.aborts);
    }

pub record CountedEnd (as' : List Answer) (text : List ℕ) : Type 0 where
  pub counts : Counts
  pub text_is : 101 ∷ 110 ∷ 100 ∷ 32 ∷ text ≡ counts_text counts
  pub ending : IsEnding as' counts

pub counted_end : (as' : List Answer) (text : List ℕ) (o : Option Ending) (n : Ending) → SpellsNumbers text o → o ≡ Some n → n.commits ≡ commits_in as' → n.aborts ≡ aborts_in as' → CountedEnd as' text
counted_end as' text o n s e f g =
    let k = known text o n s e in
    record {
      counts = s.counts;
      text_is = ap (λ xs. end_word ++ xs) s.text_is;
      ending = record {
        commits = sym (ap (λ z. z.commits) k.1) ∙ f;
        aborts = sym (ap (λ z. z.aborts) k.1) ∙ g;
        held = k.0.held;
        unbegun = k.0.unbegun;
        messages = k.0.messages;
      };
    }

-- ---- which fault

pub bad_one : (scene : Scene) (text : List ℕ) (as' : List Answer) (f : SceneFault) → IsBadAnswer scene text f → IsBadOne scene text as' f
bad_one scene text as' Form b = b
bad_one scene text as' Range b = b
bad_one scene text as' Count b = record { answer = b.answer; spells = b.spells; full = inl b.long }
bad_one scene text as' Memory b = tt

pub no_room : (scene : Scene) (text : List ℕ) (as' : List Answer) (a : Answer) → SpellsAnswer scene text a → TRANSACTIONS ≤ length as' → IsOneMore scene text as'
no_room scene text as' a s l = record { answer = a; spells = s; full = inr l }

-- no answer's line begins as the end line
no_answer : (text rest : List ℕ) → text ≡ 101 ∷ 110 ∷ 100 ∷ 32 ∷ rest → SpellsNoAnswer text
no_answer text rest e a f t = omega (arith, answer_first a, ap (λ xs. get_or xs 0 0) (sym e ∙ t))

pub refused_end : (scene : Scene) (text rest : List ℕ) (as' : List Answer) (f : SceneFault) → text ≡ 101 ∷ 110 ∷ 100 ∷ 32 ∷ rest → IsBadEnding (101 ∷ 110 ∷ 100 ∷ 32 ∷ rest) as' f → IsRefused scene text as' f
refused_end scene text rest as' Form e b = (no_answer text rest e, λ c t. b c (sym e ∙ t))
refused_end scene text rest as' Range e b = inr (record { counts = b.counts; text_is = e ∙ b.text_is; wide = b.wide })
refused_end scene text rest as' Count e b = absurd b
refused_end scene text rest as' Memory e b = tt

pub refused_one : (scene : Scene) (text : List ℕ) (as' : List Answer) (f : SceneFault) → ((rest : List ℕ) → ¬ (text ≡ 101 ∷ 110 ∷ 100 ∷ 32 ∷ rest)) → IsBadOne scene text as' f → IsRefused scene text as' f
refused_one scene text as' Form n b = (b, λ c t. n (numbers_text c) t)
refused_one scene text as' Range n b = inl b
refused_one scene text as' Count n b = b
refused_one scene text as' Memory n b = tt

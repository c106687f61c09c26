-- What is read of an end line.
use Rattle.std.proofs.Common.{List, None, Option, Some, [], ap, inl, inr, subst, sym, true, ℕ, ◌++◌, ◌<◌, ◌^◌, ◌∙◌, ◌∷◌, ◌≡◌, ◌⊎◌}
use Rattle.std.proofs.lemmas.List.{append_cancel_left}
use Rattle.std.specs.Option.{SomeIff, option_zip}
use Rattle.history_reading.proofs.AnswersApart.{aborts_text, counted_parts, counted_same, held_text, messages_text, unbegun_text}
use Rattle.history_reading.proofs.Spelled.Zips.{zip_none, zip_some}
use Rattle.history_reading.specs.HistoryLines.{numbers_text}
use Rattle.history_reading.specs.Parts.{AreSmall, SpellsCounted, SpellsNoCounted, SpellsNoNumbers, SpellsNumbers}
use Rattle.scene_text.specs.LineReading.{Spells, SpellsNone, is_without}
use Rattle.scene_text.specs.Numerals.{numeral}
use Rattle.str_model.specs.Lines.{Counts}
use Rattle.str_scene.proofs.Without.{is_without-here}

-- ---- a number after a word

pub counted_read : (text word more d rest : List ℕ) (o : Option ℕ) → text ≡ word ++ more → more ≡ d ++ 32 ∷ rest → Spells (2 ^ 64) d o → SpellsCounted text word o rest
counted_read text word more d rest o e f s = record { number = s.number; text_is = e ∙ ap (λ xs. word ++ xs) (f ∙ ap (λ xs. xs ++ 32 ∷ rest) s.text_is); kept_is = s.kept_is }

pub counted_no_word : (text word : List ℕ) → ((rest : List ℕ) → ¬ (text ≡ word ++ rest)) → SpellsNoCounted text word
counted_no_word text word none n rest e = none _ e

pub counted_no_space : (text word more : List ℕ) → text ≡ word ++ more → is_without 32 more ≡ true → SpellsNoCounted text word
counted_no_space text word more e w n rest f =
    is_without-here 32 (numeral n) rest (subst (λ xs. is_without 32 xs ≡ true) (append_cancel_left word _ _ (sym e ∙ f)) w)

pub counted_no_number : (text word more d rest : List ℕ) → text ≡ word ++ more → more ≡ d ++ 32 ∷ rest → is_without 32 d ≡ true → SpellsNone d → SpellsNoCounted text word
counted_no_number text word more d rest e f w none n tail g =
    none n (counted_parts word d rest tail n (ap (λ xs. word ++ xs) (sym f) ∙ (sym e ∙ g)) w).0

-- ---- all numbers

abbrev commits_word : List ℕ
commits_word = 99 ∷ 111 ∷ 109 ∷ 109 ∷ 105 ∷ 116 ∷ 115 ∷ 61 ∷ []

abbrev aborts_word : List ℕ
aborts_word = 97 ∷ 98 ∷ 111 ∷ 114 ∷ 116 ∷ 115 ∷ 61 ∷ []

abbrev held_word : List ℕ
held_word = 104 ∷ 101 ∷ 108 ∷ 100 ∷ 61 ∷ []

abbrev unbegun_word : List ℕ
unbegun_word = 117 ∷ 110 ∷ 98 ∷ 101 ∷ 103 ∷ 117 ∷ 110 ∷ 61 ∷ []

abbrev messages_word : List ℕ
messages_word = 109 ∷ 101 ∷ 115 ∷ 115 ∷ 97 ∷ 103 ∷ 101 ∷ 115 ∷ 61 ∷ []

-- what follows a number in a text that begins with it
after_number : (text word rest more : List ℕ) (o : Option ℕ) (n : ℕ) → SpellsCounted text word o rest → text ≡ word ++ (numeral n ++ 32 ∷ more) → rest ≡ more
after_number text word rest more o n s e = (counted_same word rest more s.number n (sym s.text_is ∙ e)).1

pub no_commits : (text : List ℕ) → SpellsNoCounted text (99 ∷ 111 ∷ 109 ∷ 109 ∷ 105 ∷ 116 ∷ 115 ∷ 61 ∷ []) → SpellsNoNumbers text
no_commits text none c e = none c.commits (aborts_text c) e

pub no_aborts : (text r : List ℕ) (o : Option ℕ) → SpellsCounted text (99 ∷ 111 ∷ 109 ∷ 109 ∷ 105 ∷ 116 ∷ 115 ∷ 61 ∷ []) o r → SpellsNoCounted r (97 ∷ 98 ∷ 111 ∷ 114 ∷ 116 ∷ 115 ∷ 61 ∷ []) → SpellsNoNumbers text
no_aborts text r o s none c e = none c.aborts (held_text c) (after_number text commits_word r (aborts_text c) o c.commits s e)

-- the first numbers of an end line, and what follows them
pub record TwoRead (text r : List ℕ) (o p : Option ℕ) : Type 0 where
  pub between : List ℕ
  pub commits : SpellsCounted text commits_word o between
  pub aborts : SpellsCounted between aborts_word p r

pub record FourRead (text r : List ℕ) (o p q s : Option ℕ) : Type 0 where
  pub between : List ℕ
  pub after : List ℕ
  pub two : TwoRead text between o p
  pub held : SpellsCounted between held_word q after
  pub unbegun : SpellsCounted after unbegun_word s r

pub two_read : (text between r : List ℕ) (o p : Option ℕ) → SpellsCounted text (99 ∷ 111 ∷ 109 ∷ 109 ∷ 105 ∷ 116 ∷ 115 ∷ 61 ∷ []) o between → SpellsCounted between (97 ∷ 98 ∷ 111 ∷ 114 ∷ 116 ∷ 115 ∷ 61 ∷ []) p r → TwoRead text r o p
two_read text between r o p s t = record { between = between; commits = s; aborts = t }

after_two : (text r : List ℕ) (o p : Option ℕ) (c : Counts) → TwoRead text r o p → text ≡ numbers_text c → r ≡ held_text c
after_two text r o p c t e =
    after_number t.between aborts_word r (held_text c) p c.aborts t.aborts (after_number text commits_word t.between (aborts_text c) o c.commits t.commits e)

pub no_held : (text r : List ℕ) (o p : Option ℕ) → TwoRead text r o p → SpellsNoCounted r (104 ∷ 101 ∷ 108 ∷ 100 ∷ 61 ∷ []) → SpellsNoNumbers text
no_held text r o p t none c e = none c.held (unbegun_text c) (after_two text r o p c t e)

pub no_unbegun : (text r rest : List ℕ) (o p q : Option ℕ) → TwoRead text r o p → SpellsCounted r (104 ∷ 101 ∷ 108 ∷ 100 ∷ 61 ∷ []) q rest → SpellsNoCounted rest (117 ∷ 110 ∷ 98 ∷ 101 ∷ 103 ∷ 117 ∷ 110 ∷ 61 ∷ []) → SpellsNoNumbers text
no_unbegun text r rest o p q t s none c e =
    none c.unbegun (messages_text c) (after_number r held_word rest (unbegun_text c) q c.held s (after_two text r o p c t e))

pub four_read : (text between after r : List ℕ) (o p q s : Option ℕ) → TwoRead text between o p → SpellsCounted between (104 ∷ 101 ∷ 108 ∷ 100 ∷ 61 ∷ []) q after → SpellsCounted after (117 ∷ 110 ∷ 98 ∷ 101 ∷ 103 ∷ 117 ∷ 110 ∷ 61 ∷ []) s r →
    FourRead text r o p q s
four_read text between after r o p q s t h u = record { between = between; after = after; two = t; held = h; unbegun = u }

after_four : (text r : List ℕ) (o p q s : Option ℕ) (c : Counts) → FourRead text r o p q s → text ≡ numbers_text c → r ≡ messages_text c
after_four text r o p q s c f e =
    after_number f.after unbegun_word r (messages_text c) s c.unbegun f.unbegun
    (after_number f.between held_word f.after (unbegun_text c) q c.held f.held (after_two text f.between o p c f.two e))

pub no_messages : (text r : List ℕ) (o p q s : Option ℕ) → FourRead text r o p q s → ((rest : List ℕ) → ¬ (r ≡ 109 ∷ 101 ∷ 115 ∷ 115 ∷ 97 ∷ 103 ∷ 101 ∷ 115 ∷ 61 ∷ rest)) → SpellsNoNumbers text
no_messages text r o p q s f none c e = none (numeral c.messages) (after_four text r o p q s c f e)

pub no_last : (text r d : List ℕ) (o p q s : Option ℕ) → FourRead text r o p q s → r ≡ 109 ∷ 101 ∷ 115 ∷ 115 ∷ 97 ∷ 103 ∷ 101 ∷ 115 ∷ 61 ∷ d → SpellsNone d → SpellsNoNumbers text
no_last text r d o p q s f e none c t = none c.messages (append_cancel_left messages_word _ _ (sym e ∙ after_four text r o p q s c f t))

-- the numbers that they are
abbrev counts_are : (text r : List ℕ) (o p q s : Option ℕ) → FourRead text r o p q s → ℕ → Counts
counts_are text r o p q s f n = record { commits = f.two.commits.number; aborts = f.two.aborts.number; held = f.held.number; unbegun = f.unbegun.number; messages = n }

numbers_are : (text r d : List ℕ) (o p q s : Option ℕ) (f : FourRead text r o p q s) (n : ℕ) → r ≡ 109 ∷ 101 ∷ 115 ∷ 115 ∷ 97 ∷ 103 ∷ 101 ∷ 115 ∷ 61 ∷ d → d ≡ numeral n → text ≡ numbers_text (counts_are text r o p q s f n)
numbers_are text r d o p q s f n e g =
    f.two.commits.text_is ∙ ap (λ xs. commits_word ++ (numeral f.two.commits.number ++ 32 ∷ xs))
    (f.two.aborts.text_is ∙ ap (λ xs. aborts_word ++ (numeral f.two.aborts.number ++ 32 ∷ xs))
    (f.held.text_is ∙ ap (λ xs. held_word ++ (numeral f.held.number ++ 32 ∷ xs))
    (f.unbegun.text_is ∙ ap (λ xs. unbegun_word ++ (numeral f.unbegun.number ++ 32 ∷ xs))
    (e ∙ ap (λ xs. messages_word ++ xs) g))))

-- a number that is kept is the one
kept : (o : Option ℕ) (n k : ℕ) → o ≡ Some k → SomeIff o (n < 2 ^ 64) n → (n < 2 ^ 64) × (k ≡ n)
kept o n k e s = subst (λ x. SomeIff x (n < 2 ^ 64) n) e s

lost : (o : Option ℕ) (n : ℕ) → o ≡ None → SomeIff o (n < 2 ^ 64) n → ¬ (n < 2 ^ 64)
lost o n e s = subst (λ x. SomeIff x (n < 2 ^ 64) n) e s

pub numbers_read : (text r d : List ℕ) (o p q s t : Option ℕ) (a b x y z : ℕ) → FourRead text r o p q s → r ≡ 109 ∷ 101 ∷ 115 ∷ 115 ∷ 97 ∷ 103 ∷ 101 ∷ 115 ∷ 61 ∷ d → Spells (2 ^ 64) d t →
    option_zip (option_zip (option_zip o p) (option_zip q s)) t ≡ Some (((a, b), (x, y)), z) → SpellsNumbers text (Some (record { commits = a; aborts = b }))
numbers_read text r d o p q s t a b x y z f e m h =
    let outer = zip_some (option_zip (option_zip o p) (option_zip q s)) t ((a, b), (x, y)) z h in
    let inner = zip_some (option_zip o p) (option_zip q s) (a, b) (x, y) outer.0 in
    let first = zip_some o p a b inner.0 in
    let second = zip_some q s x y inner.1 in
    let commits = kept o f.two.commits.number a first.0 f.two.commits.kept_is in
    let aborts = kept p f.two.aborts.number b first.1 f.two.aborts.kept_is in
    record {
      counts = counts_are text r o p q s f m.number;
      text_is = numbers_are text r d o p q s f m.number e m.text_is;
      kept_is = (
        record {
          commits = commits.0;
          aborts = aborts.0;
          held = (kept q f.held.number x second.0 f.held.kept_is).0;
          unbegun = (kept s f.unbegun.number y second.1 f.unbegun.kept_is).0;
          messages = (kept t m.number z outer.1 m.kept_is).0;
        },
        λ i. record { commits = commits.1 i; aborts = aborts.1 i },
      );
    }

pub numbers_wide : (text r d : List ℕ) (o p q s t : Option ℕ) → FourRead text r o p q s → r ≡ 109 ∷ 101 ∷ 115 ∷ 115 ∷ 97 ∷ 103 ∷ 101 ∷ 115 ∷ 61 ∷ d → Spells (2 ^ 64) d t →
    option_zip (option_zip (option_zip o p) (option_zip q s)) t ≡ None → SpellsNumbers text None
numbers_wide text r d o p q s t f e m h = record {
  counts = counts_are text r o p q s f m.number;
  text_is = numbers_are text r d o p q s f m.number e m.text_is;
  kept_is = λ small. outer small (zip_none (option_zip (option_zip o p) (option_zip q s)) t h);
}
  where
    first : AreSmall (counts_are text r o p q s f m.number) → (o ≡ None) ⊎ (p ≡ None) → ⊥
    first small (inl none) = lost o f.two.commits.number none f.two.commits.kept_is small.commits
    first small (inr none) = lost p f.two.aborts.number none f.two.aborts.kept_is small.aborts

    second : AreSmall (counts_are text r o p q s f m.number) → (q ≡ None) ⊎ (s ≡ None) → ⊥
    second small (inl none) = lost q f.held.number none f.held.kept_is small.held
    second small (inr none) = lost s f.unbegun.number none f.unbegun.kept_is small.unbegun

    inner : AreSmall (counts_are text r o p q s f m.number) → (option_zip o p ≡ None) ⊎ (option_zip q s ≡ None) → ⊥
    inner small (inl none) = first small (zip_none o p none)
    inner small (inr none) = second small (zip_none q s none)

    outer : AreSmall (counts_are text r o p q s f m.number) → (option_zip (option_zip o p) (option_zip q s) ≡ None) ⊎ (t ≡ None) → ⊥
    outer small (inl none) = inner small (zip_none (option_zip o p) (option_zip q s) none)
    outer small (inr none) = lost t m.number none m.kept_is small.messages

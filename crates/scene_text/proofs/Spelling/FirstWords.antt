-- The first word of a line, and what follows it.
use Rattle.std.proofs.Common.{List, None, Option, Some, [], ap, append_assoc, arith, get_or, length, refl, subst, sym, true, ℕ, ◌*◌, ◌++◌, ◌+◌, ◌∙◌, ◌∷◌, ◌≡◌}
use Rattle.std.proofs.lemmas.Option.{none-some, same_Some}
use Rattle.std.specs.Option.{SomeIff}
use Rattle.scene_text.specs.LineReading.{IsReadAs, ReadsArguments, ReadsNoArguments, arguments, is_without, word_of, word_text}
use Rattle.scene_text.specs.LineTexts.{Fits, IsForm, bytes_text, key_text, line_text}
use Rattle.scene_text.specs.Numerals.{numeral, signed_numeral}
use Rattle.scene_text.specs.declared.lines.Line.{Line}
use Rattle.scene_text.specs.declared.lines.Line.TheVariants.{Abort, Add, Client, Del, Deliver, Drain, End, Get, Need, Nodes, Part, Put, Puts, Schedule, Session, Tx, Version}
use Rattle.scene_text.specs.declared.lines.ReadLine.{ReadLine}
use Rattle.scene_text.specs.declared.lines.Word.{Word}
use Rattle.scene_text.specs.declared.lines.Word.TheVariants.{Abort as WAbort, Add as WAdd, Client as WClient, Del as WDel, Deliver as WDeliver, Drain as WDrain, End as WEnd, Get as WGet, Need as WNeed, Nodes as WNodes, Part as WPart, Put as WPut, Puts as WPuts, Schedule as WSchedule, Session as WSession, Tx as WTx, Version as WVersion}
use Rattle.str_scene.proofs.Without.{is_without-here, split_unique}

-- a line of more than one word
pub line_text_is : (l : Line) (text : List ℕ) → arguments l ≡ Some text → line_text l ≡ word_text (word_of l) ++ 32 ∷ text
line_text_is (Version v) text e = ap (λ bs. word_text WVersion ++ 32 ∷ bs) (same_Some _ _ e)
line_text_is (Nodes n) text e = ap (λ bs. word_text WNodes ++ 32 ∷ bs) (same_Some _ _ e)
line_text_is (Part p row) text e = ap (λ bs. word_text WPart ++ 32 ∷ bs) (same_Some _ _ e)
line_text_is (Session n) text e = ap (λ bs. word_text WSession ++ 32 ∷ bs) (same_Some _ _ e)
line_text_is Tx text e = absurd (none-some _ e)
line_text_is (Get name p) text e = ap (λ bs. word_text WGet ++ 32 ∷ bs) (same_Some _ _ e)
line_text_is (Put name p n) text e = ap (λ bs. word_text WPut ++ 32 ∷ bs) (append_assoc (key_text name p) (32 ∷ []) (signed_numeral n) ∙ same_Some _ _ e)
line_text_is (Puts name p bytes) text e = ap (λ bs. word_text WPuts ++ 32 ∷ bs) (append_assoc (key_text name p) (32 ∷ []) (bytes_text bytes) ∙ same_Some _ _ e)
line_text_is (Add name p n) text e = ap (λ bs. word_text WAdd ++ 32 ∷ bs) (append_assoc (key_text name p) (32 ∷ []) (signed_numeral n) ∙ same_Some _ _ e)
line_text_is (Del name p) text e = ap (λ bs. word_text WDel ++ 32 ∷ bs) (same_Some _ _ e)
line_text_is (Need name p n) text e = ap (λ bs. word_text WNeed ++ 32 ∷ bs) (append_assoc (key_text name p) (32 ∷ []) (signed_numeral n) ∙ same_Some _ _ e)
line_text_is Abort text e = absurd (none-some _ e)
line_text_is Schedule text e = absurd (none-some _ e)
line_text_is (Client s t) text e = ap (λ bs. word_text WClient ++ 32 ∷ bs) (append_assoc (numeral s.0) (32 ∷ []) (numeral t) ∙ same_Some _ _ e)
line_text_is (Deliver i) text e = ap (λ bs. word_text WDeliver ++ 32 ∷ bs) (same_Some _ _ e)
line_text_is Drain text e = absurd (none-some _ e)
line_text_is End text e = absurd (none-some _ e)

-- a line of one word
pub line_text_alone : (l : Line) → arguments l ≡ None → line_text l ≡ word_text (word_of l)
line_text_alone Tx e = refl
line_text_alone Abort e = refl
line_text_alone Schedule e = refl
line_text_alone Drain e = refl
line_text_alone End e = refl
line_text_alone _ e = absurd (none-some _ (sym e))

-- no space stands in a word
pub word_text-without : (w : Word) → is_without 32 (word_text w) ≡ true
word_text-without WVersion = refl
word_text-without WNodes = refl
word_text-without WPart = refl
word_text-without WSession = refl
word_text-without WTx = refl
word_text-without WGet = refl
word_text-without WPut = refl
word_text-without WPuts = refl
word_text-without WAdd = refl
word_text-without WDel = refl
word_text-without WNeed = refl
word_text-without WAbort = refl
word_text-without WSchedule = refl
word_text-without WClient = refl
word_text-without WDeliver = refl
word_text-without WDrain = refl
word_text-without WEnd = refl

-- the first byte, the third and the length, as one number
abbrev told_by : List ℕ → ℕ
told_by bytes = get_or bytes 0 0 * 65536 + (get_or bytes 2 0 * 256 + length bytes)

-- each word is of one kind
pub word_text-injective : (v w : Word) → word_text v ≡ word_text w → v ≡ w
word_text-injective WVersion WVersion e = refl
word_text-injective WNodes WNodes e = refl
word_text-injective WPart WPart e = refl
word_text-injective WSession WSession e = refl
word_text-injective WTx WTx e = refl
word_text-injective WGet WGet e = refl
word_text-injective WPut WPut e = refl
word_text-injective WPuts WPuts e = refl
word_text-injective WAdd WAdd e = refl
word_text-injective WDel WDel e = refl
word_text-injective WNeed WNeed e = refl
word_text-injective WAbort WAbort e = refl
word_text-injective WSchedule WSchedule e = refl
word_text-injective WClient WClient e = refl
word_text-injective WDeliver WDeliver e = refl
word_text-injective WDrain WDrain e = refl
word_text-injective WEnd WEnd e = refl
word_text-injective _ _ e = absurd (omega (arith, ap told_by e))

-- the word of a line before its first space, and what follows
pub line_parts : (l : Line) (line a b text : List ℕ) → line ≡ a ++ 32 ∷ b → is_without 32 a ≡ true → arguments l ≡ Some text → line ≡ line_text l → (a ≡ word_text (word_of l)) × (b ≡ text)
line_parts l line a b text e h some f =
    split_unique 32 a b (word_text (word_of l)) text h (word_text-without (word_of l)) (sym e ∙ (f ∙ line_text_is l text some))

-- a line with a space has something after its first word
spaced : (l : Line) (o : Option (List ℕ)) (line a b : List ℕ) → arguments l ≡ o → line ≡ a ++ 32 ∷ b → is_without 32 a ≡ true → line ≡ line_text l → (arguments l ≡ Some b) × (a ≡ word_text (word_of l))
spaced l None line a b o e h f =
    absurd (is_without-here 32 a b (subst (λ bs. is_without 32 bs ≡ true) (sym (line_text_alone l o) ∙ (sym f ∙ e)) (word_text-without (word_of l))))
spaced l (Some text) line a b o e h f =
    let k = line_parts l line a b text e h o f in
    (o ∙ ap Some (sym k.1), k.0)

-- no line begins with what is no word
pub line_no_word : (line a b : List ℕ) → line ≡ a ++ 32 ∷ b → is_without 32 a ≡ true → ((w : Word) → ¬ (a ≡ word_text w)) → (l : Line) → IsForm l → ¬ (line ≡ line_text l)
line_no_word line a b e h none l ok f = none (word_of l) (spaced l (arguments l) line a b refl e h f).1

-- nor with a word after which this doesn't come
pub line_no_arguments : (line a b : List ℕ) (w : Word) → line ≡ a ++ 32 ∷ b → is_without 32 a ≡ true → a ≡ word_text w → ReadsNoArguments w b → (l : Line) → IsForm l → ¬ (line ≡ line_text l)
line_no_arguments line a b w e h is none l ok f =
    let k = spaced l (arguments l) line a b refl e h f in
    none l (word_text-injective (word_of l) w (sym k.1 ∙ is)) ok k.0

-- a line that is read
pub line_read : (line a b : List ℕ) (w : Word) (kept : Option Line) (r : ReadLine) → line ≡ a ++ 32 ∷ b → a ≡ word_text w → ReadsArguments w b kept → r.word ≡ w → r.line ≡ kept → IsReadAs line r
line_read line a b w kept r e is k word_is line_is =
    record {
      line = k.line;
      form = k.form;
      text_is = e ∙ (ap (λ bs. bs ++ 32 ∷ b) (is ∙ ap word_text (sym k.of_word)) ∙ sym (line_text_is k.line b k.text_is));
      word_is = word_is ∙ sym k.of_word;
      line_is = subst (λ o. SomeIff o (Fits k.line) k.line) (sym line_is) k.kept_is;
    }

-- a line of one word fits and is of the form
lone_fits : (l : Line) → arguments l ≡ None → IsForm l × Fits l
lone_fits Tx e = (tt, tt)
lone_fits Abort e = (tt, tt)
lone_fits Schedule e = (tt, tt)
lone_fits Drain e = (tt, tt)
lone_fits End e = (tt, tt)
lone_fits _ e = absurd (none-some _ (sym e))

-- a line of one word that is read
pub word_read : (line : List ℕ) (w : Word) (l : Line) (r : ReadLine) → line ≡ word_text w → word_of l ≡ w → arguments l ≡ None → r.word ≡ w → r.line ≡ Some l → IsReadAs line r
word_read line w l r e of alone word_is line_is =
    let ok = lone_fits l alone in
    record {
      line = l;
      form = ok.0;
      text_is = e ∙ (ap word_text (sym of) ∙ sym (line_text_alone l alone));
      word_is = word_is ∙ sym of;
      line_is = subst (λ o. SomeIff o (Fits l) l) (sym line_is) (ok.1, refl);
    }

-- no line is one word that is none
pub word_no_word : (line : List ℕ) → ((w : Word) → ¬ (line ≡ word_text w)) → (l : Line) → arguments l ≡ None → ¬ (line ≡ line_text l)
word_no_word line none l alone f = none (word_of l) (f ∙ line_text_alone l alone)

-- nor a word that doesn't stand alone
pub word_no_line : (line : List ℕ) (w : Word) → line ≡ word_text w → ((l : Line) → word_of l ≡ w → ¬ (arguments l ≡ None)) → (l : Line) → arguments l ≡ None → ¬ (line ≡ line_text l)
word_no_line line w e none l alone f =
    none l (word_text-injective (word_of l) w (sym (line_text_alone l alone) ∙ (sym f ∙ e))) alone

-- a line without a space is one word
lone : (l : Line) (o : Option (List ℕ)) (line : List ℕ) → arguments l ≡ o → is_without 32 line ≡ true → line ≡ line_text l → arguments l ≡ None
lone l None line o h f = o
lone l (Some text) line o h f =
    absurd (is_without-here 32 (word_text (word_of l)) text (subst (λ bs. is_without 32 bs ≡ true) (f ∙ line_text_is l text o) h))

pub line_no_space : (line : List ℕ) → is_without 32 line ≡ true → ((l : Line) → arguments l ≡ None → ¬ (line ≡ line_text l)) → (l : Line) → IsForm l → ¬ (line ≡ line_text l)
line_no_space line h none l ok f = none l (lone l (arguments l) line refl h f) f

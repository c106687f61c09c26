-- The replicas of a partition as text.
use Rattle.std.proofs.Common.{List, None, Option, Some, [], ap, append_assoc, arith, length, length-append, nat_lt, refl, subst, sym, true, ℕ, ◌&&◌, ◌++◌, ◌<◌, ◌∙◌, ◌∷◌, ◌≡◌, ◌≤◌}
use Rattle.std.proofs.lemmas.Bool.{and_from, and_parts}
use Rattle.std.proofs.lemmas.Bool.Decides.{nat_tests}
use Rattle.std.proofs.lemmas.Grind.{flat_map-append}
use Rattle.std.proofs.lemmas.List.Folds.{list_all-append}
use Rattle.std.proofs.lemmas.List.{append-nil}
use Rattle.std.proofs.lemmas.Option.{same_Some}
use Rattle.std.specs.List.{list_all}
use Rattle.std.specs.Option.{SomeIff, option_zip}
use Rattle.scene_text.proofs.Spelling.Arguments.{zip_none}
use Rattle.scene_text.proofs.Spelling.Numerals.{numeral-injective, numeral-without}
use Rattle.scene_text.specs.LineReading.{ReadsArguments, ReadsNoArguments, RowFits, Spells, SpellsNoRow, SpellsNone, SpellsRow, is_without, row_text}
use Rattle.scene_text.specs.Numerals.{numeral}
use Rattle.scene_text.specs.declared.lines.Line.TheVariants.{Part}
use Rattle.scene_text.specs.declared.lines.Word.TheVariants.{Part as WPart}
use Rattle.str_base.specs.declared.names.NodeId.{NodeId}
use Rattle.str_base.specs.declared.names.PartId.{PartId}
use Rattle.str_scene.proofs.Without.{is_without-here, split_unique}

-- the replicas that have been read of a text, and what is left of it
pub record RowSoFar (text left : List ℕ) (kept : Option (List NodeId)) : Type 0 where
  pub row : List NodeId
  pub text_is : 32 ∷ text ≡ row_text row ++ 32 ∷ left
  pub kept_is : SomeIff kept (RowFits row) row

-- nothing has been read
pub row_begins : (text : List ℕ) (kept : Option (List NodeId)) → kept ≡ Some [] → RowSoFar text text kept
row_begins text kept e = record { row = []; text_is = refl; kept_is = subst (λ k. SomeIff k (RowFits []) []) (sym e) ((omega arith, refl), refl) }

-- one more replica at the end
row_text_more : (row : List NodeId) (n : NodeId) → row_text (row ++ n ∷ []) ≡ row_text row ++ (32 ∷ numeral n.0)
row_text_more row n =
    flat_map-append (λ r. 32 ∷ numeral r.0) row (n ∷ []) ∙ ap (λ xs. row_text row ++ xs) (append-nil (32 ∷ numeral n.0))

-- one more has been read
pub row_goes_on : (text left word rest : List ℕ) (kept next : Option (List NodeId)) (number : Option ℕ) → RowSoFar text left kept → left ≡ word ++ 32 ∷ rest → Spells 256 word number →
    ((row : List NodeId) (n : ℕ) → SomeIff kept (RowFits row) row → SomeIff number (n < 256) n → SomeIff next (RowFits (row ++ record { 0 = n } ∷ [])) (row ++ record { 0 = n } ∷ [])) →
    RowSoFar text rest next
row_goes_on text left word rest kept next number so_far e s step =
    let n : NodeId = record { 0 = s.number } in
    record {
      row = so_far.row ++ n ∷ [];
      text_is = so_far.text_is ∙ (ap (λ xs. row_text so_far.row ++ 32 ∷ xs) (e ∙ ap (λ xs. xs ++ 32 ∷ rest) s.text_is)
          ∙ (sym (append_assoc (row_text so_far.row) (32 ∷ numeral s.number) (32 ∷ rest)) ∙ ap (λ xs. xs ++ 32 ∷ rest) (sym (row_text_more so_far.row n))));
      kept_is = step so_far.row s.number so_far.kept_is s.kept_is;
    }

-- the last has been read
pub row_ends : (text left : List ℕ) (kept next : Option (List NodeId)) (number : Option ℕ) → RowSoFar text left kept → Spells 256 left number →
    ((row : List NodeId) (n : ℕ) → SomeIff kept (RowFits row) row → SomeIff number (n < 256) n → SomeIff next (RowFits (row ++ record { 0 = n } ∷ [])) (row ++ record { 0 = n } ∷ [])) →
    SpellsRow text next
row_ends text left kept next number so_far s step =
    let n : NodeId = record { 0 = s.number } in
    record {
      row = so_far.row ++ n ∷ [];
      some = omega (arith, length-append so_far.row (n ∷ []));
      text_is = so_far.text_is ∙ (ap (λ xs. row_text so_far.row ++ 32 ∷ xs) s.text_is ∙ sym (row_text_more so_far.row n));
      kept_is = step so_far.row s.number so_far.kept_is s.kept_is;
    }

-- what is left of replicas after some of them
record RowLeft (row done : List NodeId) (left : List ℕ) : Type 0 where
  after : List NodeId
  parts_are : row ≡ done ++ after
  text_is : 32 ∷ left ≡ row_text after

-- replicas with more text after them begin with a space
begins_so : (row : List NodeId) (left : List ℕ) → (more : List ℕ) × (row_text row ++ 32 ∷ left ≡ 32 ∷ more)
begins_so [] left = (left, refl)
begins_so (n ∷ ns) left = (_, refl)

-- a decimal and replicas after it, where more text follows
first_more : (r d : ℕ) (rs : List NodeId) (more : List ℕ) → numeral r ++ row_text rs ≡ numeral d ++ 32 ∷ more → (numeral r ≡ numeral d) × (row_text rs ≡ 32 ∷ more)
first_more r d [] more e =
    absurd (is_without-here 32 (numeral d) more (subst (λ bs. is_without 32 bs ≡ true) (sym (append-nil (numeral r)) ∙ e) (numeral-without 32 r refl)))
first_more r d (s ∷ ss) more e =
    let k = split_unique 32 (numeral r) (numeral s.0 ++ row_text ss) (numeral d) more (numeral-without 32 r refl) (numeral-without 32 d refl) e in
    (k.0, ap (λ xs. 32 ∷ xs) k.1)

-- the same before other replicas that more text follows
first_row : (r d : ℕ) (rs ds : List NodeId) (left : List ℕ) → numeral r ++ row_text rs ≡ numeral d ++ (row_text ds ++ 32 ∷ left) → (numeral r ≡ numeral d) × (row_text rs ≡ row_text ds ++ 32 ∷ left)
first_row r d rs ds left e =
    let b = begins_so ds left in
    let k = first_more r d rs b.0 (e ∙ ap (λ xs. numeral d ++ xs) b.1) in
    (k.0, k.1 ∙ sym b.1)

-- one replica more in front
left_more : (d r : NodeId) (ds rs : List NodeId) (left : List ℕ) → numeral r.0 ≡ numeral d.0 → RowLeft rs ds left → RowLeft (r ∷ rs) (d ∷ ds) left
left_more d r ds rs left e k =
    let same : r ≡ d = ap (λ n. record { 0 = n }) (numeral-injective r.0 d.0 e) in
    record { after = k.after; parts_are = (λ i. same i ∷ k.parts_are i); text_is = k.text_is }

-- without the first space
unspaced : (xs ys : List ℕ) → 32 ∷ xs ≡ 32 ∷ ys → xs ≡ ys
unspaced xs ys e = cc

-- the replicas of a text begin with those that have been read of it
row_left : (done row : List NodeId) (left : List ℕ) → row_text row ≡ row_text done ++ 32 ∷ left → RowLeft row done left
row_left [] row left e = record { after = row; parts_are = refl; text_is = sym e }
row_left (d ∷ ds) [] left e = absurd (cc)
row_left (d ∷ ds) (r ∷ rs) left e =
    let k = first_row r.0 d.0 rs ds left (unspaced (numeral r.0 ++ row_text rs) ((numeral d.0 ++ row_text ds) ++ 32 ∷ left) e ∙ append_assoc (numeral d.0) (row_text ds) (32 ∷ left)) in
    left_more d r ds rs left k.0 (row_left ds rs left k.1)

-- the first word of replicas is a decimal
word_first : (word rest : List ℕ) (n : ℕ) (row : List NodeId) → word ++ 32 ∷ rest ≡ numeral n ++ row_text row → is_without 32 word ≡ true → word ≡ numeral n
word_first word rest n [] e h =
    absurd (is_without-here 32 word rest (subst (λ bs. is_without 32 bs ≡ true) (sym (append-nil (numeral n)) ∙ sym e) (numeral-without 32 n refl)))
word_first word rest n (s ∷ ss) e h =
    (split_unique 32 word rest (numeral n) (numeral s.0 ++ row_text ss) h (numeral-without 32 n refl) e).0

-- and so is the last
word_last : (word : List ℕ) (n : ℕ) (row : List NodeId) → word ≡ numeral n ++ row_text row → is_without 32 word ≡ true → word ≡ numeral n
word_last word n [] e h = e ∙ append-nil (numeral n)
word_last word n (s ∷ ss) e h =
    absurd (is_without-here 32 (numeral n) (numeral s.0 ++ row_text ss) (subst (λ bs. is_without 32 bs ≡ true) e h))

-- a word before a space that is no decimal
no_word : (after : List NodeId) (left word rest : List ℕ) → 32 ∷ left ≡ row_text after → left ≡ word ++ 32 ∷ rest → is_without 32 word ≡ true → SpellsNone word → ⊥
no_word [] left word rest e f h none = cc
no_word (a ∷ as_) left word rest e f h none =
    none a.0 (word_first word rest a.0 as_ (sym f ∙ unspaced left (numeral a.0 ++ row_text as_) e) h)

pub row_no_word : (text left word rest : List ℕ) (kept : Option (List NodeId)) → RowSoFar text left kept → left ≡ word ++ 32 ∷ rest → is_without 32 word ≡ true → SpellsNone word → SpellsNoRow text
row_no_word text left word rest kept so_far e h none row some f =
    let k = row_left so_far.row row left (sym f ∙ so_far.text_is) in
    no_word k.after left word rest k.text_is e h none

-- a last word that is no decimal
no_last : (after : List NodeId) (left : List ℕ) → 32 ∷ left ≡ row_text after → is_without 32 left ≡ true → SpellsNone left → ⊥
no_last [] left e h none = cc
no_last (a ∷ as_) left e h none = none a.0 (word_last left a.0 as_ (unspaced left (numeral a.0 ++ row_text as_) e) h)

pub row_no_last : (text left : List ℕ) (kept : Option (List NodeId)) → RowSoFar text left kept → is_without 32 left ≡ true → SpellsNone left → SpellsNoRow text
row_no_last text left kept so_far h none row some f =
    let k = row_left so_far.row row left (sym f ∙ so_far.text_is) in
    no_last k.after left k.text_is h none

-- replicas that fit without the last one, and the last one
pub fits_front : (row : List NodeId) (n : ℕ) → RowFits (row ++ record { 0 = n } ∷ []) → RowFits row × (n < 256)
fits_front row n h =
    let all = and_parts (list_all (λ r. nat_lt r.0 256) row) (nat_lt n 256 && true) (sym (list_all-append (λ r. nat_lt r.0 256) row (record { 0 = n } ∷ [])) ∙ h.1) in
    ((omega (arith, h.0, length-append row (record { 0 = n } ∷ [])), all.0), below n all.1)
  where
    below : (m : ℕ) → (nat_lt m 256 && true) ≡ true → m < 256
    below m e = grind (arith, nat_tests)

-- and with it
pub fits_more : (row : List NodeId) (n : ℕ) → RowFits row → length row < 8 → n < 256 → RowFits (row ++ record { 0 = n } ∷ [])
fits_more row n h few small =
    let last : nat_lt n 256 ≡ true = grind (arith, nat_tests) in
    (omega (arith, length-append row (record { 0 = n } ∷ [])), list_all-append (λ r. nat_lt r.0 256) row (record { 0 = n } ∷ []) ∙ and_from _ _ h.1 (and_from _ _ last refl))

-- one part before the first space of a line of a partition, and replicas after it
part_parts : (text a b : List ℕ) (p : PartId) (row : List NodeId) → text ≡ a ++ 32 ∷ b → is_without 32 a ≡ true → 1 ≤ length row → numeral p.0 ++ row_text row ≡ text → (a ≡ numeral p.0) × (32 ∷ b ≡ row_text row)
part_parts text a b p [] e h some f = absurd (omega arith)
part_parts text a b p (r ∷ rs) e h some f =
    let k = split_unique 32 a b (numeral p.0) (numeral r.0 ++ row_text rs) h (numeral-without 32 p.0 refl) (sym e ∙ sym f) in
    (k.0, ap (λ xs. 32 ∷ xs) k.1)

pub part_no_number : (text a b : List ℕ) → text ≡ a ++ 32 ∷ b → is_without 32 a ≡ true → SpellsNone a → ReadsNoArguments WPart text
part_no_number text a b e h none (Part p row) w ok f = none p.0 (part_parts text a b p row e h ok (same_Some _ _ f)).0
part_no_number text a b e h none _ w ok f = absurd (cc)

pub part_no_row : (text a b : List ℕ) → text ≡ a ++ 32 ∷ b → is_without 32 a ≡ true → SpellsNoRow b → ReadsNoArguments WPart text
part_no_row text a b e h none (Part p row) w ok f = none row ok (part_parts text a b p row e h ok (same_Some _ _ f)).1
part_no_row text a b e h none _ w ok f = absurd (cc)

-- a line of a partition has a space
no_space : (text : List ℕ) (p : ℕ) (row : List NodeId) → is_without 32 text ≡ true → 1 ≤ length row → numeral p ++ row_text row ≡ text → ⊥
no_space text p [] h some e = omega arith
no_space text p (r ∷ rs) h some e = is_without-here 32 (numeral p) (numeral r.0 ++ row_text rs) (subst (λ bs. is_without 32 bs ≡ true) (sym e) h)

pub part_no_space : (text : List ℕ) → is_without 32 text ≡ true → ReadsNoArguments WPart text
part_no_space text h (Part p row) w ok f = no_space text p.0 row h ok (same_Some _ _ f)
part_no_space text h _ w ok f = absurd (cc)

-- a number and replicas, one of which doesn't fit
pub part_too_great : (text a b : List ℕ) (o : Option ℕ) (p : Option (List NodeId)) → text ≡ a ++ 32 ∷ b → Spells 256 a o → SpellsRow b p → option_zip o p ≡ None → ReadsArguments WPart text None
part_too_great text a b o p e s r none =
    record {
      line = Part (record { 0 = s.number }) r.row;
      of_word = refl;
      form = r.some;
      text_is = ap Some (sym (e ∙ (λ i. s.text_is i ++ r.text_is i)));
      kept_is = λ h. zip_none o p _ _ _ _ s.kept_is r.kept_is none (h.0, (h.1, h.2));
    }

-- both fit
pub part_kept : (text a b : List ℕ) (n : ℕ) (row : List NodeId) → text ≡ a ++ 32 ∷ b → Spells 256 a (Some n) → SpellsRow b (Some row) → ReadsArguments WPart text (Some (Part (record { 0 = n }) row))
part_kept text a b n row e s r =
    let same : n ≡ s.number = s.kept_is.1 in
    record {
      line = Part (record { 0 = s.number }) r.row;
      of_word = refl;
      form = r.some;
      text_is = ap Some (sym (e ∙ (λ i. s.text_is i ++ r.text_is i)));
      kept_is = ((s.kept_is.0, r.kept_is.0.0, r.kept_is.0.1), (λ i. Part (record { 0 = same i }) (r.kept_is.1 i)));
    }

-- What follows the first word of a line: what fits is kept, and what is of no form is refused.
use Rattle.std.proofs.Common.{List, None, Option, Some, [], ap, refl, sym, true, ℕ, ℤ, inl, inr, ◌++◌, ◌∙◌, ◌∷◌, ◌≡◌, ◌⊎◌, ◌≢◌, ◌^◌}
use Rattle.std.proofs.lemmas.Option.{none-some, same_Some}
use Rattle.std.specs.Option.{SomeIff, option_zip}
use Rattle.scene_text.proofs.Spelling.Numerals.{numeral-without}
use Rattle.scene_text.specs.LineReading.{ReadsArguments, ReadsNoArguments, Spells, SpellsBytes, SpellsKey, SpellsKeyNumber, SpellsNoBytes, SpellsNoKey, SpellsNoKeyNumber, SpellsNoSigned, SpellsNone, is_without}
use Rattle.scene_text.specs.LineTexts.{bytes_text, key_text}
use Rattle.scene_text.specs.Numerals.{numeral, signed_numeral}
use Rattle.scene_text.specs.declared.lines.Line.TheVariants.{Add, Client, Del, Deliver, Get, Need, Nodes, Put, Puts, Session, Version}
use Rattle.scene_text.specs.declared.lines.Word.TheVariants.{Add as WAdd, Client as WClient, Del as WDel, Deliver as WDeliver, Get as WGet, Need as WNeed, Nodes as WNodes, Put as WPut, Puts as WPuts, Session as WSession, Version as WVersion}
use Rattle.str_base.specs.declared.names.PartId.{PartId}
use Rattle.str_scene.specs.SceneLimits.{is_name}
use Rattle.str_scene.proofs.Without.{is_without-append, is_without-name, split_unique}

-- where a pair isn't kept, one of the two doesn't fit
pub zip_none : {A B : Type 0} (a : Option A) (b : Option B) (P Q : Type 0) (x : A) (y : B) → SomeIff a P x → SomeIff b Q y → option_zip a b ≡ None → ¬ (P × Q)
zip_none None b P Q x y p q e h = p h.0
zip_none (Some m) None P Q x y p q e h = q h.1
zip_none (Some m) (Some n) P Q x y p q e h = absurd (none-some _ (sym e))

-- versions 1 and 2
pub version_kept : (v : ℕ) (text : List ℕ) → (v ≡ 1) ⊎ (v ≡ 2) → text ≡ numeral v → ReadsArguments WVersion text (Some (Version v))
version_kept v text known e = record { line = Version v; of_word = refl; form = known; text_is = ap Some (sym e); kept_is = (tt, refl) }

-- the spellings of 1 and 2
pub numeral_one : numeral 1 ≡ 49 ∷ []
unfolding numeral
numeral_one = refl

pub numeral_two : numeral 2 ≡ 50 ∷ []
unfolding numeral
numeral_two = refl

-- and no others
pub version_none : (text : List ℕ) → text ≢ 49 ∷ [] → text ≢ 50 ∷ [] → ReadsNoArguments WVersion text
version_none text not_one not_two (Version v) w (inl e) f = not_one (sym (same_Some _ _ f) ∙ (ap numeral e ∙ numeral_one))
version_none text not_one not_two (Version v) w (inr e) f = not_two (sym (same_Some _ _ f) ∙ (ap numeral e ∙ numeral_two))
version_none text not_one not_two _ w h f = absurd (cc)

-- numbers that are too great
pub nodes_too_great : (text : List ℕ) (o : Option ℕ) → Spells 256 text o → o ≡ None → ReadsArguments WNodes text None
nodes_too_great text None s e = record { line = Nodes s.number; of_word = refl; form = tt; text_is = ap Some (sym s.text_is); kept_is = s.kept_is }
nodes_too_great text (Some n) s e = absurd (none-some _ (sym e))

pub session_too_great : (text : List ℕ) (o : Option ℕ) → Spells 256 text o → o ≡ None → ReadsArguments WSession text None
session_too_great text None s e = record { line = Session (record { 0 = s.number }); of_word = refl; form = tt; text_is = ap Some (sym s.text_is); kept_is = s.kept_is }
session_too_great text (Some n) s e = absurd (none-some _ (sym e))

pub deliver_too_great : (text : List ℕ) (o : Option ℕ) → Spells (2 ^ 64) text o → o ≡ None → ReadsArguments WDeliver text None
deliver_too_great text None s e = record { line = Deliver s.number; of_word = refl; form = tt; text_is = ap Some (sym s.text_is); kept_is = s.kept_is }
deliver_too_great text (Some n) s e = absurd (none-some _ (sym e))

-- a session and a reading, one of which is too great
pub client_too_great : (text a b : List ℕ) (o : Option ℕ) (p : Option ℕ) → text ≡ a ++ 32 ∷ b → Spells 256 a o → Spells (2 ^ 64) b p → option_zip o p ≡ None → ReadsArguments WClient text None
client_too_great text a b o p e s r none =
    record {
      line = Client (record { 0 = s.number }) r.number;
      of_word = refl;
      form = tt;
      text_is = ap Some (sym (e ∙ (λ i. s.text_is i ++ 32 ∷ r.text_is i)));
      kept_is = zip_none o p _ _ _ _ s.kept_is r.kept_is none;
    }

-- one number before the space and one after it
pub client_parts : (text a b : List ℕ) (s t : ℕ) → text ≡ a ++ 32 ∷ b → is_without 32 a ≡ true → numeral s ++ 32 ∷ numeral t ≡ text → (a ≡ numeral s) × (b ≡ numeral t)
client_parts text a b s t e h f = split_unique 32 a b (numeral s) (numeral t) h (numeral-without 32 s refl) (sym e ∙ sym f)

pub client_no_session : (text a b : List ℕ) → text ≡ a ++ 32 ∷ b → is_without 32 a ≡ true → SpellsNone a → ReadsNoArguments WClient text
client_no_session text a b e h none (Client s t) w ok f = none s.0 (client_parts text a b s.0 t e h (same_Some _ _ f)).0
client_no_session text a b e h none _ w ok f = absurd (cc)

pub client_no_reading : (text a b : List ℕ) → text ≡ a ++ 32 ∷ b → is_without 32 a ≡ true → SpellsNone b → ReadsNoArguments WClient text
client_no_reading text a b e h none (Client s t) w ok f = none t (client_parts text a b s.0 t e h (same_Some _ _ f)).1
client_no_reading text a b e h none _ w ok f = absurd (cc)

-- keys whose partition has too great a number
pub get_too_great : (text name : List ℕ) (o : Option PartId) → SpellsKey text name o → o ≡ None → ReadsArguments WGet text None
get_too_great text name None s e = record { line = Get name s.part; of_word = refl; form = s.named; text_is = ap Some (sym s.text_is); kept_is = s.kept_is }
get_too_great text name (Some n) s e = absurd (none-some _ (sym e))

pub del_too_great : (text name : List ℕ) (o : Option PartId) → SpellsKey text name o → o ≡ None → ReadsArguments WDel text None
del_too_great text name None s e = record { line = Del name s.part; of_word = refl; form = s.named; text_is = ap Some (sym s.text_is); kept_is = s.kept_is }
del_too_great text name (Some n) s e = absurd (none-some _ (sym e))

-- a byte that stands in no name, no decimal and isn't @ is in no key
pub key_text-without : (c : ℕ) (name : List ℕ) (p : PartId) → is_without c name ≡ true → is_without c (64 ∷ []) ≡ true → is_without c (numeral p.0) ≡ true → is_without c (key_text name p) ≡ true
key_text-without c name p e f g = is_without-append c (name ++ 64 ∷ []) (numeral p.0) (is_without-append c name (64 ∷ []) e f) g

-- one key before the space, and one thing after it
pub key_before : (text a b name : List ℕ) (p : PartId) (rest : List ℕ) → text ≡ a ++ 32 ∷ b → is_without 32 a ≡ true → is_name name ≡ true → text ≡ key_text name p ++ 32 ∷ rest → (a ≡ key_text name p) × (b ≡ rest)
key_before text a b name p rest e h ok f =
    split_unique 32 a b (key_text name p) rest h (key_text-without 32 name p (is_without-name 32 name refl refl ok) refl (numeral-without 32 p.0 refl)) (sym e ∙ f)

pub key_number_no_key : (text a b : List ℕ) → text ≡ a ++ 32 ∷ b → is_without 32 a ≡ true → SpellsNoKey a → SpellsNoKeyNumber text
key_number_no_key text a b e h none name p z ok f = none name p ok (key_before text a b name p (signed_numeral z) e h ok f).0

pub key_number_no_number : (text a b : List ℕ) → text ≡ a ++ 32 ∷ b → is_without 32 a ≡ true → SpellsNoSigned b → SpellsNoKeyNumber text
key_number_no_number text a b e h none name p z ok f = none z (key_before text a b name p (signed_numeral z) e h ok f).1

pub puts_no_key : (text a b : List ℕ) → text ≡ a ++ 32 ∷ b → is_without 32 a ≡ true → SpellsNoKey a → ReadsNoArguments WPuts text
puts_no_key text a b e h none (Puts name p bytes) w ok f = none name p ok.0 (key_before text a b name p (bytes_text bytes) e h ok.0 (sym (same_Some _ _ f))).0
puts_no_key text a b e h none _ w ok f = absurd (cc)

pub puts_no_bytes : (text a b : List ℕ) → text ≡ a ++ 32 ∷ b → is_without 32 a ≡ true → SpellsNoBytes b → ReadsNoArguments WPuts text
puts_no_bytes text a b e h none (Puts name p bytes) w ok f = none bytes ok.1 (key_before text a b name p (bytes_text bytes) e h ok.0 (sym (same_Some _ _ f))).1
puts_no_bytes text a b e h none _ w ok f = absurd (cc)

-- a key and a byte string, one of which doesn't fit
pub puts_too_great : (text a b name : List ℕ) (o : Option PartId) (p : Option (List ℕ)) → text ≡ a ++ 32 ∷ b → SpellsKey a name o → SpellsBytes b p → option_zip o p ≡ None → ReadsArguments WPuts text None
puts_too_great text a b name o p e s r none =
    record {
      line = Puts name s.part r.bytes;
      of_word = refl;
      form = (s.named, r.are_bytes);
      text_is = ap Some (sym (e ∙ (λ i. s.text_is i ++ 32 ∷ r.text_is i)));
      kept_is = zip_none o p _ _ _ _ s.kept_is r.kept_is none;
    }

-- keys with numbers, one of which doesn't fit
pub put_too_great : (text name : List ℕ) (o : Option (PartId × ℤ)) → SpellsKeyNumber text name o → o ≡ None → ReadsArguments WPut text None
put_too_great text name None s e = record { line = Put name s.part s.number; of_word = refl; form = s.named; text_is = ap Some (sym s.text_is); kept_is = s.kept_is }
put_too_great text name (Some n) s e = absurd (none-some _ (sym e))

pub add_too_great : (text name : List ℕ) (o : Option (PartId × ℤ)) → SpellsKeyNumber text name o → o ≡ None → ReadsArguments WAdd text None
add_too_great text name None s e = record { line = Add name s.part s.number; of_word = refl; form = s.named; text_is = ap Some (sym s.text_is); kept_is = s.kept_is }
add_too_great text name (Some n) s e = absurd (none-some _ (sym e))

pub need_too_great : (text name : List ℕ) (o : Option (PartId × ℤ)) → SpellsKeyNumber text name o → o ≡ None → ReadsArguments WNeed text None
need_too_great text name None s e = record { line = Need name s.part s.number; of_word = refl; form = s.named; text_is = ap Some (sym s.text_is); kept_is = s.kept_is }
need_too_great text name (Some n) s e = absurd (none-some _ (sym e))

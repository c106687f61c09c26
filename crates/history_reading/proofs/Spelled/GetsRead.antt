-- What is read of keys, values and gets.
use Rattle.std.proofs.Common.{Bool, List, None, Option, Some, [], ap, append_assoc, arith, false, length, refl, slice_get, subst, sym, true, ℕ, ℤ, ◌++◌, ◌<◌, ◌∙◌, ◌∷◌, ◌≡◌}
use Rattle.std.proofs.Common.{append-nil, length-append}
use Rattle.std.proofs.lemmas.Grind.{flat_map-append}
use Rattle.std.proofs.lemmas.List.{map-append}
use Rattle.std.proofs.lemmas.Option.{none-some, same_Some}
use Rattle.std.specs.Int.{w64}
use Rattle.std.specs.Option.{option_zip}
use Rattle.std.specs.Prelude.{FitsSigned}
use Rattle.scene_text.proofs.Spelling.TextsApart.{bytes_text-injective}
use Rattle.scene_text.proofs.Spelling.NumbersRead.{number_fits}
use Rattle.history_reading.proofs.LinesWritten.{key_written}
use Rattle.history_reading.proofs.Spelled.PlacesFound.{at_map, from_map}
use Rattle.history_reading.proofs.TypedAnswers.{key_named, text_bytes, text_stands}
use Rattle.history_reading.proofs.WordsApart.{first_get, get_parts, get_text-space, key_text-injective}
use Rattle.history_reading.specs.HistoryLines.{AnyGet, Bytes, IsFormGet, NoValue, Number, any_get, any_gets, any_value, get_text, gets_text, value_text}
use Rattle.history_reading.specs.HistoryRanges.{IsGot, IsValue}
use Rattle.history_reading.specs.Parts.{AreGots, IsAfterWord, Known, SpellsGet, SpellsGets, SpellsKnownKey, SpellsNoGet, SpellsNoGets, SpellsNoValue, SpellsValue, kept_gets, with_get}
use Rattle.history_reading.specs.Places.{ArePlaces, byte_texts, key_texts, place_in}
use Rattle.scene_text.specs.LineReading.{SpellsBytes, SpellsKey, SpellsNoBytes, SpellsNoKey, SpellsNoSigned, SpellsSigned, is_without}
use Rattle.scene_text.specs.LineTexts.{AreBytes, bytes_text, key_text}
use Rattle.scene_text.specs.SceneLines.{key_at, text_at}
use Rattle.str_base.specs.declared.names.KeyId.{KeyId}
use Rattle.str_base.specs.declared.names.PartId.{PartId}
use Rattle.str_base.specs.declared.names.Value.{Value}
use Rattle.str_base.specs.declared.names.Value.TheVariants.{Absent, Num, Text}
use Rattle.str_model.specs.declared.names.Got.{Got}
use Rattle.str_scene.proofs.Without.{is_without-here}
use Rattle.str_scene.proofs.Each.{each_append}
use Rattle.str_scene.specs.Lists.{Each}
use Rattle.str_scene.specs.SceneLimits.{IsKeyOf, IsNumber, IsScene}
use Rattle.str_scene.specs.Scenes.{Scene}
use Rattle.str_scene.specs.Spelling.{key_spelled, name_spelled, text_spelled}

-- ---- keys

pub key_read : (scene : Scene) (places : List (List ℕ × ℕ)) (text name : List ℕ) (o : Option PartId) (i : ℕ) → IsScene scene → ArePlaces (key_texts scene.keys) places → SpellsKey text name o → place_in places text ≡ Some i →
    SpellsKnownKey scene.keys text (Some (record { 0 = i }))
key_read scene places text name o i s p k e =
    let id : KeyId = record { 0 = i } in
    let at = from_map (λ key. name_spelled (Some key)) scene.keys.names i text (p.stands text i e) in
    let of : IsKeyOf scene.keys id = at.3 in
    let spelled : text ≡ key_text (key_at scene.keys id).0 (key_at scene.keys id).1 = sym at.2 ∙ (sym (ap name_spelled at.1) ∙ key_written scene id s of) in
    let same : key_at scene.keys id ≡ (name, k.part) = key_text-injective (key_at scene.keys id) (name, k.part) (key_named scene s id of) k.named (sym spelled ∙ k.text_is) in
    record { key = (name, k.part); named = k.named; text_is = k.text_is; kept_is = (of, same) }

pub key_lost : (scene : Scene) (places : List (List ℕ × ℕ)) (text name : List ℕ) (o : Option PartId) → IsScene scene → ArePlaces (key_texts scene.keys) places → SpellsKey text name o → place_in places text ≡ None →
    SpellsKnownKey scene.keys text None
key_lost scene places text name o s p k e = record {
  key = (name, k.part);
  named = k.named;
  text_is = k.text_is;
  kept_is = λ id of same. (let spelled : key_spelled scene.keys id ≡ text = key_written scene id s of ∙ (ap (λ x. key_text x.0 x.1) same ∙ sym k.text_is) in
      p.found id.0 text (at_map name_spelled scene.keys.names id.0 of ∙ ap Some spelled) e);
}

-- ---- values

pub none_value : (scene : Scene) (text : List ℕ) → text ≡ 110 ∷ 111 ∷ 110 ∷ 101 ∷ [] → SpellsValue scene.keys text (Some Absent)
none_value scene text e = record { value = NoValue; form = tt; text_is = e; kept_is = (tt, refl) }

pub number_read : (scene : Scene) (text : List ℕ) (o : Option ℤ) (n : ℤ) → o ≡ Some n → SpellsSigned text o → SpellsValue scene.keys text (Some (Num n))
number_read scene text None n e s = absurd (none-some _ e)
number_read scene text (Some m) n e s =
    let same : m ≡ n = same_Some _ _ e in
    record { value = Number s.number; form = tt; text_is = s.text_is; kept_is = (subst IsNumber (sym s.kept_is.1 ∙ same) s.kept_is.0, ap Number (sym same ∙ s.kept_is.1)) }

pub signed_fits : (text : List ℕ) (o : Option ℤ) (n : ℤ) → o ≡ Some n → SpellsSigned text o → FitsSigned w64 n
signed_fits text None n e s = absurd (none-some _ e)
signed_fits text (Some m) n e s = let same : m ≡ n = same_Some _ _ e in number_fits n (subst IsNumber (sym s.kept_is.1 ∙ same) s.kept_is.0)

pub number_wide : (scene : Scene) (text : List ℕ) (o : Option ℤ) → o ≡ None → SpellsSigned text o → SpellsValue scene.keys text None
number_wide scene text (Some m) e s = absurd (none-some _ (sym e))
number_wide scene text None e s = record { value = Number s.number; form = tt; text_is = s.text_is; kept_is = wide }
  where
    wide : (v : Value) → IsValue scene.keys v → ¬ (any_value scene.keys v ≡ Number s.number)
    wide Absent h q = absurd (cc)
    wide (Num m) h q = let same : m ≡ s.number = cc in s.kept_is (subst IsNumber same h)
    wide (Text t) h q = absurd (cc)

pub bytes_read : (scene : Scene) (places : List (List ℕ × ℕ)) (text : List ℕ) (o : Option (List ℕ)) (i : ℕ) → IsScene scene → ArePlaces (byte_texts scene.keys) places → SpellsBytes text o → place_in places text ≡ Some i →
    SpellsValue scene.keys text (Some (Text (record { 0 = i })))
bytes_read scene places text o i s p k e =
    let at = from_map (λ bytes. text_spelled (Some bytes)) scene.keys.texts i text (p.stands text i e) in
    let stands : text_at scene.keys (record { 0 = i }) ≡ at.0 = same_Some _ _ (sym (text_stands scene s (record { 0 = i }) at.3) ∙ at.1) in
    let same : at.0 ≡ k.bytes =
    bytes_text-injective at.0 k.bytes (subst (λ xs. AreBytes xs) stands (text_bytes scene s (record { 0 = i }) at.3)) k.are_bytes (at.2 ∙ k.text_is) in
    record { value = Bytes k.bytes; form = k.are_bytes; text_is = k.text_is; kept_is = (at.3, ap Bytes (stands ∙ same)) }

pub bytes_lost : (scene : Scene) (places : List (List ℕ × ℕ)) (text : List ℕ) (o : Option (List ℕ)) → IsScene scene → ArePlaces (byte_texts scene.keys) places → SpellsBytes text o → place_in places text ≡ None →
    SpellsValue scene.keys text None
bytes_lost scene places text o s p k e = record { value = Bytes k.bytes; form = k.are_bytes; text_is = k.text_is; kept_is = lost }
  where
    lost : (v : Value) → IsValue scene.keys v → ¬ (any_value scene.keys v ≡ Bytes k.bytes)
    lost Absent h q = absurd (cc)
    lost (Num m) h q = absurd (cc)
    lost (Text t) h q =
        let same : text_at scene.keys t ≡ k.bytes = cc in
        let spelled : text_spelled (slice_get scene.keys.texts t.0) ≡ text = ap text_spelled (text_stands scene s t h) ∙ (ap bytes_text same ∙ sym k.text_is) in
        p.found t.0 text (at_map text_spelled scene.keys.texts t.0 h ∙ ap Some spelled) e

pub no_value : (text : List ℕ) → ¬ (text ≡ 110 ∷ 111 ∷ 110 ∷ 101 ∷ []) → SpellsNoSigned text → SpellsNoBytes text → SpellsNoValue text
no_value text none signed bytes NoValue f e = none e
no_value text none signed bytes (Number n) f e = signed n e
no_value text none signed bytes (Bytes xs) f e = bytes xs f e

-- ---- a get

pub get_no_sign : (text : List ℕ) → is_without 61 text ≡ true → SpellsNoGet text
get_no_sign text w g f e = is_without-here 61 (key_text g.key.0 g.key.1) (value_text g.value) (subst (λ xs. is_without 61 xs ≡ true) e w)

pub no_get_key : (text a b : List ℕ) → text ≡ a ++ 61 ∷ b → is_without 61 a ≡ true → SpellsNoKey a → SpellsNoGet text
no_get_key text a b e f n g form h = n g.key.0 g.key.1 form.0 (get_parts text a b g form e f h).0

pub no_get_value : (text a b : List ℕ) → text ≡ a ++ 61 ∷ b → is_without 61 a ≡ true → SpellsNoValue b → SpellsNoGet text
no_get_value text a b e f n g form h = n g.value form.1 (get_parts text a b g form e f h).1

pub get_read : (scene : Scene) (text a b : List ℕ) (o : Option KeyId) (p : Option Value) (q : KeyId × Value) → text ≡ a ++ 61 ∷ b → option_zip o p ≡ Some q → SpellsKnownKey scene.keys a o → SpellsValue scene.keys b p →
    SpellsGet scene.keys text (Some (record { key = q.0; value = q.1 }))
get_read scene text a b None p q e z s t = absurd (none-some _ z)
get_read scene text a b (Some x) None q e z s t = absurd (none-some _ z)
get_read scene text a b (Some x) (Some y) q e z s t =
    let same : ◌≡◌ {A = KeyId × Value} (x, y) q = same_Some _ _ z in
    let first : x ≡ q.0 = ap (λ r. r.0) same in
    let second : y ≡ q.1 = ap (λ r. r.1) same in
    record {
      get = record { key = s.key; value = t.value };
      form = (s.named, t.form);
      text_is = e ∙ (λ i. s.text_is i ++ 61 ∷ t.text_is i);
      kept_is = (
        (subst (IsKeyOf scene.keys) first s.kept_is.0, subst (IsValue scene.keys) second t.kept_is.0),
        λ i. record { key = (ap (key_at scene.keys) (sym first) ∙ s.kept_is.1) i; value = (ap (any_value scene.keys) (sym second) ∙ t.kept_is.1) i },
      );
    }

pub get_lost : (scene : Scene) (text a b : List ℕ) (o : Option KeyId) (p : Option Value) → text ≡ a ++ 61 ∷ b → option_zip o p ≡ None → SpellsKnownKey scene.keys a o → SpellsValue scene.keys b p → SpellsGet scene.keys text None
get_lost scene text a b o p e z s t = record {
  get = record { key = s.key; value = t.value };
  form = (s.named, t.form);
  text_is = e ∙ (λ i. s.text_is i ++ 61 ∷ t.text_is i);
  kept_is = lost o p z s.kept_is t.kept_is;
}
  where
    lost : (x : Option KeyId) (y : Option Value) → option_zip x y ≡ None → Known (IsKeyOf scene.keys) (key_at scene.keys) s.key x → Known (IsValue scene.keys) (any_value scene.keys) t.value y →
        (g : Got) → IsGot scene.keys g → ¬ (any_get scene.keys g ≡ record { key = s.key; value = t.value })
    lost None y w k l g h same = k g.key h.0 (ap (λ r. r.key) same)
    lost (Some x) None w k l g h same = l g.value h.1 (ap (λ r. r.value) same)
    lost (Some x) (Some y) w k l g h same = absurd (none-some _ (sym w))

-- ---- gets

-- gets so far
pub record GetsSoFar (scene : Scene) (text left : List ℕ) (kept : Option (List Got)) : Type 0 where
  pub done : List AnyGet
  pub forms : Each IsFormGet done
  pub text_is : text ≡ gets_text done ++ left
  pub after : IsAfterWord left
  pub kept_is : Known (AreGots scene.keys) (any_gets scene.keys) done kept

pub gets_begin : (scene : Scene) (text : List ℕ) (kept : Option (List Got)) → IsAfterWord text → kept ≡ Some [] → GetsSoFar scene text text kept
gets_begin scene text kept a e = record { done = []; forms = tt; text_is = refl; after = a; kept_is = subst (Known (AreGots scene.keys) (any_gets scene.keys) []) (sym e) (tt, refl) }

-- no gets are kept
pub kept_new : (all : Bool) (gets : List Got) → all ≡ true → gets ≡ [] → kept_gets all gets ≡ Some []
kept_new true gets e f = ap Some f
kept_new false gets e f = absurd (cc)

-- what is left is shorter
pub gets_shorter : (left words word rest : List ℕ) → left ≡ 32 ∷ words → words ≡ word ++ rest → length rest < length left
gets_shorter left words word rest e f = omega (arith, ap length e, ap length f, length-append word rest)

-- a list with one more
push_apart : {X : Type 0} (xs ys : List X) (x y : X) → xs ++ x ∷ [] ≡ ys ++ y ∷ [] → (xs ≡ ys) × (x ≡ y)
push_apart [] [] x y e = let same : x ≡ y = cc in (refl, same)
push_apart [] (b ∷ []) x y e = absurd (cc)
push_apart [] (b ∷ c ∷ ys) x y e = absurd (cc)
push_apart (a ∷ []) [] x y e = absurd (cc)
push_apart (a ∷ c ∷ xs) [] x y e = absurd (cc)
push_apart (a ∷ xs) (b ∷ ys) x y e =
    let first : a ≡ b = cc in
    let more : xs ++ x ∷ [] ≡ ys ++ y ∷ [] = cc in
    let rest = push_apart xs ys x y more in
    (λ i. first i ∷ rest.0 i, rest.1)

-- the last of a list that is not empty
data EndsIn {X : Type 0} (P : X → Type 0) (xs : List X) : Type 0 where
  Ends : (ys : List X) (y : X) → xs ≡ ys ++ y ∷ [] → Each P ys → P y → EndsIn P xs

ends_in : {X : Type 0} (P : X → Type 0) (x : X) (xs : List X) → Each P (x ∷ xs) → EndsIn P (x ∷ xs)
ends_in P x [] h = Ends [] x refl tt h.0
ends_in P x (y ∷ xs) h = by (ends_in P y xs h.1)
  where
    by : EndsIn P (y ∷ xs) → EndsIn P (x ∷ y ∷ xs)
    by (Ends ys z e f g) = Ends (x ∷ ys) z (ap (λ zs. x ∷ zs) e) (h.0, f) g

-- one more get
known_push : (scene : Scene) (done : List AnyGet) (g : AnyGet) (kept : Option (List Got)) (got : Option Got) → Known (AreGots scene.keys) (any_gets scene.keys) done kept → Known (IsGot scene.keys) (any_get scene.keys) g got →
    Known (AreGots scene.keys) (any_gets scene.keys) (done ++ g ∷ []) (with_get kept got)
known_push scene done g (Some gets) (Some got) k l =
    (each_append (IsGot scene.keys) gets (got ∷ []) k.0 (l.0, tt), map-append (any_get scene.keys) gets (got ∷ []) ∙ (λ i. k.1 i ++ l.1 i ∷ []))
known_push scene done g None got k l = λ gets h e. lost gets h e
  where
    lost : (gets : List Got) → AreGots scene.keys gets → ¬ (any_gets scene.keys gets ≡ done ++ g ∷ [])
    lost [] h e = empty done e
      where
        empty : (xs : List AnyGet) → ¬ ([] ≡ xs ++ g ∷ [])
        empty [] q = absurd (cc)
        empty (x ∷ xs) q = absurd (cc)
    lost (x ∷ gets) h e = by (ends_in (IsGot scene.keys) x gets h)
      where
        by : EndsIn (IsGot scene.keys) (x ∷ gets) → ⊥
        by (Ends ys y q f p) = k ys f (push_apart (any_gets scene.keys ys) done (any_get scene.keys y) g (sym (map-append (any_get scene.keys) ys (y ∷ [])) ∙ (sym (ap (any_gets scene.keys) q) ∙ e))).0
known_push scene done g (Some kept) None k l = λ gets h e. lost gets h e
  where
    lost : (gets : List Got) → AreGots scene.keys gets → ¬ (any_gets scene.keys gets ≡ done ++ g ∷ [])
    lost [] h e = empty done e
      where
        empty : (xs : List AnyGet) → ¬ ([] ≡ xs ++ g ∷ [])
        empty [] q = absurd (cc)
        empty (x ∷ xs) q = absurd (cc)
    lost (x ∷ gets) h e = by (ends_in (IsGot scene.keys) x gets h)
      where
        by : EndsIn (IsGot scene.keys) (x ∷ gets) → ⊥
        by (Ends ys y q f p) = l y p (push_apart (any_gets scene.keys ys) done (any_get scene.keys y) g (sym (map-append (any_get scene.keys) ys (y ∷ [])) ∙ (sym (ap (any_gets scene.keys) q) ∙ e))).1

pub gets_next : (scene : Scene) (text left words word rest : List ℕ) (kept new : Option (List Got)) (got : Option Got) → GetsSoFar scene text left kept → left ≡ 32 ∷ words → words ≡ word ++ rest → IsAfterWord rest →
    SpellsGet scene.keys word got → new ≡ with_get kept got → GetsSoFar scene text rest new
gets_next scene text left words word rest kept new got s e f a g h = record {
  done = s.done ++ g.get ∷ [];
  forms = each_append IsFormGet s.done (g.get ∷ []) s.forms (g.form, tt);
  text_is =
      s.text_is ∙ (ap (λ xs. gets_text s.done ++ xs) (e ∙ (ap (λ xs. 32 ∷ xs) f ∙ (λ i. 32 ∷ (g.text_is i ++ rest))))
      ∙ (sym (append_assoc (gets_text s.done) (32 ∷ get_text g.get) rest)
      ∙ ap (λ xs. xs ++ rest) (ap (λ xs. gets_text s.done ++ xs) (sym (append-nil (32 ∷ get_text g.get))) ∙ sym (flat_map-append (λ x. 32 ∷ get_text x) s.done (g.get ∷ [])))));
  after = a;
  kept_is = subst (Known (AreGots scene.keys) (any_gets scene.keys) (s.done ++ g.get ∷ [])) (sym h) (known_push scene s.done g.get kept got s.kept_is g.kept_is);
}

-- a word that is no get
lost_get : (done gets : List AnyGet) (word rest : List ℕ) → Each IsFormGet done → Each IsFormGet gets → is_without 32 word ≡ true → IsAfterWord rest → SpellsNoGet word → gets_text done ++ 32 ∷ (word ++ rest) ≡ gets_text gets → ⊥
lost_get [] [] word rest d f w a n e = absurd (cc)
lost_get [] (g ∷ gets) word rest d f w a n e = n g f.0 (first_get word rest g gets f.0 w a e).0
lost_get (x ∷ done) [] word rest d f w a n e = absurd (cc)
lost_get (x ∷ done) (g ∷ gets) word rest d f w a n e =
    let more : List ℕ = gets_text done ++ 32 ∷ (word ++ rest) in
    let whole : 32 ∷ (get_text x ++ more) ≡ gets_text (g ∷ gets) = sym (append_assoc (32 ∷ get_text x) (gets_text done) (32 ∷ (word ++ rest))) ∙ e in
    lost_get done gets word rest d.1 f.1 w a n (first_get (get_text x) more g gets f.0 (get_text-space x d.0) (follows done) whole).1
  where
    follows : (xs : List AnyGet) → IsAfterWord (gets_text xs ++ 32 ∷ (word ++ rest))
    follows [] = refl
    follows (y ∷ xs) = refl

pub gets_stop : (scene : Scene) (text left words word rest : List ℕ) (kept : Option (List Got)) → GetsSoFar scene text left kept → left ≡ 32 ∷ words → words ≡ word ++ rest → is_without 32 word ≡ true → IsAfterWord rest →
    SpellsNoGet word → SpellsNoGets text
gets_stop scene text left words word rest kept s e f w a n gets form h =
    lost_get s.done gets word rest s.forms form w a n (ap (λ xs. gets_text s.done ++ xs) (sym (e ∙ ap (λ xs. 32 ∷ xs) f)) ∙ (sym s.text_is ∙ h))

-- nothing is left
no_word : (left : List ℕ) → IsAfterWord left → ((rest : List ℕ) → ¬ (left ≡ 32 ∷ rest)) → left ≡ []
no_word [] a n = refl
no_word (b ∷ left) a n = absurd (n left (ap (λ c. c ∷ left) a))

pub gets_end : (scene : Scene) (text left : List ℕ) (kept : Option (List Got)) → GetsSoFar scene text left kept → ((rest : List ℕ) → ¬ (left ≡ 32 ∷ rest)) → SpellsGets scene.keys text kept
gets_end scene text left kept s n = record {
  gets = s.done;
  forms = s.forms;
  text_is = s.text_is ∙ (ap (λ xs. gets_text s.done ++ xs) (no_word left s.after n) ∙ append-nil (gets_text s.done));
  kept_is = s.kept_is;
}

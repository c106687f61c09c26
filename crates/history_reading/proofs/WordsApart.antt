-- Words, names, places, values and gets are told apart by the bytes between them.
use Rattle.str_base.proofs.SameNames.{tx_by_numbers}
use Rattle.std.proofs.Common.{List, [], ap, append-nil, arith, flat_map, get_or, negsuc, not, pos, refl, subst, sym, true, ℕ, ℤ, ◌++◌, ◌<◌, ◌==◌, ◌∙◌, ◌∷◌, ◌≡◌, ◌≤◌}
use Rattle.std.proofs.lemmas.List.{append_cancel_left}
use Rattle.std.proofs.lemmas.Bool.{and_from}
use Rattle.std.proofs.lemmas.Bool.Decides.{nat_tests}
use Rattle.history_reading.specs.HistoryLines.{AnyGet, AnyValue, Bytes, IsFormGet, IsFormValue, NoValue, Number, get_text, gets_text, name_text, place_text, value_text}
use Rattle.history_reading.specs.Parts.{IsAfterWord}
use Rattle.scene_text.proofs.Spelling.Arguments.{key_text-without}
use Rattle.scene_text.proofs.Spelling.Numerals.{numeral-injective, numeral-without, numeral_first, signed_numeral-injective, signed_numeral-without}
use Rattle.scene_text.proofs.Spelling.TextsApart.{bytes_text-injective, line_text-injective}
use Rattle.scene_text.specs.LineReading.{is_without}
use Rattle.scene_text.specs.LineTexts.{AreBytes, bytes_text, key_text, line_text}
use Rattle.scene_text.specs.Numerals.{numeral, signed_numeral}
use Rattle.scene_text.specs.declared.lines.Line.TheVariants.{Get as LGet, Puts as LPuts}
use Rattle.str_base.specs.declared.names.PartId.{PartId}
use Rattle.str_base.specs.declared.names.TxId.{TxId}
use Rattle.str_scene.proofs.Without.{is_without-append, is_without-here, is_without-name, split_unique}
use Rattle.str_scene.specs.Lists.{Each}
use Rattle.str_scene.specs.SceneLimits.{is_name}
use Rattle.str_scene.specs.Spelling.{hex_byte, hex_digit}
use Rattle.str_scene.specs.declared.names.TxPlace.{TxPlace}

-- a space, or the end, ends a word
pub word_unique : (w u a v : List ℕ) → is_without 32 w ≡ true → is_without 32 u ≡ true → IsAfterWord a → IsAfterWord v → w ++ a ≡ u ++ v → (w ≡ u) × (a ≡ v)
word_unique w u [] [] f g p q e = (sym (append-nil w) ∙ (e ∙ append-nil u), refl)
word_unique w u [] (c ∷ v) f g p q e =
    absurd (is_without-here 32 u v (subst (λ xs. is_without 32 xs ≡ true) (sym (append-nil w) ∙ (e ∙ ap (λ x. u ++ x ∷ v) q)) f))
word_unique w u (b ∷ a) [] f g p q e =
    absurd (is_without-here 32 w a (subst (λ xs. is_without 32 xs ≡ true) (sym (append-nil u) ∙ (sym e ∙ ap (λ x. w ++ x ∷ a) p)) g))
word_unique w u (b ∷ a) (c ∷ v) f g p q e =
    let h : (w ≡ u) × (a ≡ v) = split_unique 32 w a u v f g (ap (λ x. w ++ x ∷ a) (sym p) ∙ (e ∙ ap (λ x. u ++ x ∷ v) q)) in
    (h.0, λ i. (p ∙ sym q) i ∷ h.1 i)

-- ---- names and places

pub name_parts : (text a b : List ℕ) (t : TxId) → text ≡ a ++ 46 ∷ b → is_without 46 a ≡ true → text ≡ name_text t → (a ≡ numeral t.node.0) × (b ≡ numeral t.seq)
name_parts text a b t e h f = split_unique 46 a b (numeral t.node.0) (numeral t.seq) h (numeral-without 46 t.node.0 refl) (sym e ∙ f)

pub name_text-injective : (s t : TxId) → name_text s ≡ name_text t → s ≡ t
name_text-injective s t e =
    let h = name_parts (name_text s) (numeral s.node.0) (numeral s.seq) t refl (numeral-without 46 s.node.0 refl) e in
    tx_by_numbers s t (numeral-injective s.node.0 t.node.0 h.0) (numeral-injective s.seq t.seq h.1)

pub name_text-space : (t : TxId) → is_without 32 (name_text t) ≡ true
name_text-space t = is_without-append 32 (numeral t.node.0) (46 ∷ numeral t.seq) (numeral-without 32 t.node.0 refl) (numeral-without 32 t.seq refl)

pub name_text-feed : (t : TxId) → is_without 10 (name_text t) ≡ true
name_text-feed t = is_without-append 10 (numeral t.node.0) (46 ∷ numeral t.seq) (numeral-without 10 t.node.0 refl) (numeral-without 10 t.seq refl)

pub place_parts : (text rest a b : List ℕ) (p : TxPlace) → text ≡ 115 ∷ rest → rest ≡ a ++ 47 ∷ b → is_without 47 a ≡ true → text ≡ place_text p → (a ≡ numeral p.session.0) × (b ≡ numeral p.index)
place_parts text rest a b p e f h g =
    let same : rest ≡ numeral p.session.0 ++ 47 ∷ numeral p.index = append_cancel_left (115 ∷ []) _ _ (sym e ∙ g) in
    split_unique 47 a b (numeral p.session.0) (numeral p.index) h (numeral-without 47 p.session.0 refl) (sym f ∙ same)

pub place_same : (p q : TxPlace) → p.session.0 ≡ q.session.0 → p.index ≡ q.index → p ≡ q
place_same p q e f = λ i. record { session = record { 0 = e i }; index = f i }

pub place_text-injective : (p q : TxPlace) → place_text p ≡ place_text q → p ≡ q
place_text-injective p q e =
    let h = place_parts (place_text p) (numeral p.session.0 ++ 47 ∷ numeral p.index) (numeral p.session.0) (numeral p.index) q refl refl (numeral-without 47 p.session.0 refl) e in
    place_same p q (numeral-injective p.session.0 q.session.0 h.0) (numeral-injective p.index q.index h.1)

pub place_text-space : (p : TxPlace) → is_without 32 (place_text p) ≡ true
place_text-space p = is_without-append 32 (numeral p.session.0) (47 ∷ numeral p.index) (numeral-without 32 p.session.0 refl) (numeral-without 32 p.index refl)

pub place_text-feed : (p : TxPlace) → is_without 10 (place_text p) ≡ true
place_text-feed p = is_without-append 10 (numeral p.session.0) (47 ∷ numeral p.index) (numeral-without 10 p.session.0 refl) (numeral-without 10 p.index refl)

-- ---- keys and byte strings

pub key_text-injective : (k l : List ℕ × PartId) → is_name k.0 ≡ true → is_name l.0 ≡ true → key_text k.0 k.1 ≡ key_text l.0 l.1 → k ≡ l
key_text-injective k l a b e =
    let same : LGet k.0 k.1 ≡ LGet l.0 l.1 = line_text-injective (LGet k.0 k.1) (LGet l.0 l.1) a b (ap (λ xs. 103 ∷ 101 ∷ 116 ∷ 32 ∷ xs) e) in
    let named : k.0 ≡ l.0 = cc in
    let part : k.1 ≡ l.1 = cc in
    λ i. (named i, part i)

pub key_text-free : (c : ℕ) (k : List ℕ × PartId) → is_name k.0 ≡ true → is_without c k.0 ≡ true → is_without c (64 ∷ []) ≡ true → is_without c (numeral k.1.0) ≡ true → is_without c (key_text k.0 k.1) ≡ true
key_text-free c k named f g h = key_text-without c k.0 k.1 f g h

-- no byte below 48 stands in the digits of bytes
hex_digit-free : (c n : ℕ) → c < 48 → not (hex_digit n == c) ≡ true
hex_digit-free c n l = grind (arith, nat_tests)

pub hex-free : (c : ℕ) (xs : List ℕ) → c < 48 → is_without c (flat_map hex_byte xs) ≡ true
hex-free c [] l = refl
hex-free c (x ∷ xs) l = and_from _ _ (hex_digit-free c _ l) (and_from _ _ (hex_digit-free c _ l) (hex-free c xs l))

-- ---- values

signed_first : (z : ℤ) → get_or (signed_numeral z) 0 0 ≤ 57
signed_first (pos n) = (numeral_first n).1
signed_first (negsuc n) = omega arith

pub value_text-injective : (v w : AnyValue) → IsFormValue v → IsFormValue w → value_text v ≡ value_text w → v ≡ w
value_text-injective NoValue NoValue a b e = refl
value_text-injective (Number n) (Number m) a b e = ap Number (signed_numeral-injective n m e)
value_text-injective (Bytes xs) (Bytes ys) a b e = ap Bytes (bytes_text-injective xs ys a b e)
value_text-injective NoValue (Number m) a b e = absurd (omega (arith, signed_first m, ap (λ xs. get_or xs 0 0) e))
value_text-injective (Number n) NoValue a b e = absurd (omega (arith, signed_first n, ap (λ xs. get_or xs 0 0) e))
value_text-injective NoValue (Bytes ys) a b e = absurd (omega (arith, ap (λ xs. get_or xs 0 0) e))
value_text-injective (Bytes xs) NoValue a b e = absurd (omega (arith, ap (λ zs. get_or zs 0 0) e))
value_text-injective (Number n) (Bytes ys) a b e = absurd (omega (arith, signed_first n, ap (λ xs. get_or xs 0 0) e))
value_text-injective (Bytes xs) (Number m) a b e = absurd (omega (arith, signed_first m, ap (λ zs. get_or zs 0 0) e))

pub value_text-space : (v : AnyValue) → is_without 32 (value_text v) ≡ true
value_text-space NoValue = refl
value_text-space (Number n) = signed_numeral-without 32 n refl refl
value_text-space (Bytes xs) = hex-free 32 xs (omega arith)

pub value_text-feed : (v : AnyValue) → is_without 10 (value_text v) ≡ true
value_text-feed NoValue = refl
value_text-feed (Number n) = signed_numeral-without 10 n refl refl
value_text-feed (Bytes xs) = hex-free 10 xs (omega arith)

-- ---- gets

pub get_parts : (text a b : List ℕ) (g : AnyGet) → IsFormGet g → text ≡ a ++ 61 ∷ b → is_without 61 a ≡ true → text ≡ get_text g → (a ≡ key_text g.key.0 g.key.1) × (b ≡ value_text g.value)
get_parts text a b g f e h k =
    split_unique 61 a b (key_text g.key.0 g.key.1) (value_text g.value) h
    (key_text-free 61 g.key f.0 (is_without-name 61 g.key.0 refl refl f.0) refl (numeral-without 61 g.key.1.0 refl)) (sym e ∙ k)

pub get_text-injective : (g h : AnyGet) → IsFormGet g → IsFormGet h → get_text g ≡ get_text h → g ≡ h
get_text-injective g h a b e =
    let parts = get_parts (get_text g) (key_text g.key.0 g.key.1) (value_text g.value) h b refl
    (key_text-free 61 g.key a.0 (is_without-name 61 g.key.0 refl refl a.0) refl (numeral-without 61 g.key.1.0 refl)) e in
    let key : g.key ≡ h.key = key_text-injective g.key h.key a.0 b.0 parts.0 in
    let value : g.value ≡ h.value = value_text-injective g.value h.value a.1 b.1 parts.1 in
    λ i. record { key = key i; value = value i }

pub get_text-space : (g : AnyGet) → IsFormGet g → is_without 32 (get_text g) ≡ true
get_text-space g f =
    is_without-append 32 (key_text g.key.0 g.key.1) (61 ∷ value_text g.value)
    (key_text-free 32 g.key f.0 (is_without-name 32 g.key.0 refl refl f.0) refl (numeral-without 32 g.key.1.0 refl)) (value_text-space g.value)

pub get_text-feed : (g : AnyGet) → IsFormGet g → is_without 10 (get_text g) ≡ true
get_text-feed g f =
    is_without-append 10 (key_text g.key.0 g.key.1) (61 ∷ value_text g.value)
    (key_text-free 10 g.key f.0 (is_without-name 10 g.key.0 refl refl f.0) refl (numeral-without 10 g.key.1.0 refl)) (value_text-feed g.value)

pub gets_after : (gets : List AnyGet) → IsAfterWord (gets_text gets)
gets_after [] = tt
gets_after (g ∷ gets) = refl

-- the first of the gets
pub first_get : (word rest : List ℕ) (g : AnyGet) (gets : List AnyGet) → IsFormGet g → is_without 32 word ≡ true → IsAfterWord rest → 32 ∷ (word ++ rest) ≡ gets_text (g ∷ gets) →
    (word ≡ get_text g) × (rest ≡ gets_text gets)
first_get word rest g gets f w r e =
    word_unique word (get_text g) rest (gets_text gets) w (get_text-space g f) r (gets_after gets) (append_cancel_left (32 ∷ []) _ _ e)

pub gets_text-injective : (gs hs : List AnyGet) → Each IsFormGet gs → Each IsFormGet hs → gets_text gs ≡ gets_text hs → gs ≡ hs
gets_text-injective [] [] a b e = refl
gets_text-injective [] (h ∷ hs) a b e = absurd (cc)
gets_text-injective (g ∷ gs) [] a b e = absurd (cc)
gets_text-injective (g ∷ gs) (h ∷ hs) a b e =
    let parts = first_get (get_text g) (gets_text gs) h hs b.0 (get_text-space g a.0) (gets_after gs) e in
    let first : g ≡ h = get_text-injective g h a.0 b.0 parts.0 in
    let rest : gs ≡ hs = gets_text-injective gs hs a.1 b.1 parts.1 in
    λ i. first i ∷ rest i

pub gets_text-feed : (gs : List AnyGet) → Each IsFormGet gs → is_without 10 (gets_text gs) ≡ true
gets_text-feed [] f = refl
gets_text-feed (g ∷ gs) f = is_without-append 10 (get_text g) (gets_text gs) (get_text-feed g f.0) (gets_text-feed gs f.1)

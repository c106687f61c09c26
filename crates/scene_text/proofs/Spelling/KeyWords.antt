-- Keys and byte strings as text: each has one spelling.
use Rattle.std.proofs.Common.{Bool, List, None, Option, Some, [], ap, append_assoc, arith, false, length, nat_lt, refl, subst, sym, true, ℕ, ◌%◌, ◌*◌, ◌++◌, ◌+◌, ◌-◌, ◌/◌, ◌<◌, ◌∙◌, ◌∷◌, ◌≡◌, ◌≤◌}
use Rattle.std.proofs.lemmas.Bool.{and_from, and_parts}
use Rattle.std.proofs.lemmas.Bool.Decides.{nat_tests}
use Rattle.std.specs.List.{list_all}
use Rattle.std.specs.Prelude.{flat_map}
use Rattle.scene_text.proofs.Spelling.PartedBytes.{one_answer}
use Rattle.scene_text.specs.HexDigits.{digit_number, is_hex, paired}
use Rattle.scene_text.specs.LineReading.{Spells, SpellsBytes, SpellsKey, SpellsNoBytes, SpellsNoKey, SpellsNone, is_without}
use Rattle.scene_text.specs.LineTexts.{AreBytes, key_text}
use Rattle.scene_text.specs.Numerals.{numeral}
use Rattle.str_base.specs.declared.names.PartId.{PartId}
use Rattle.str_scene.specs.SceneLimits.{is_name}
use Rattle.str_scene.specs.Spelling.{hex_byte, hex_digit}
use Rattle.str_scene.proofs.Without.{is_without-name, split_unique}

-- a key in its parts
pub key_text_is : (name : List ℕ) (p : PartId) → key_text name p ≡ name ++ 64 ∷ numeral p.0
key_text_is name p = append_assoc name (64 ∷ []) (numeral p.0)

-- a key has one name and one number
pub key_parts : (text a b name : List ℕ) (p : PartId) → text ≡ a ++ 64 ∷ b → is_without 64 a ≡ true → is_name name ≡ true → text ≡ key_text name p → (a ≡ name) × (b ≡ numeral p.0)
key_parts text a b name p e h ok f =
    split_unique 64 a b name (numeral p.0) h (is_without-name 64 name refl refl ok) (sym e ∙ (f ∙ key_text_is name p))

-- no key without a number after @
pub key_no_number : (text a b : List ℕ) → text ≡ a ++ 64 ∷ b → is_without 64 a ≡ true → SpellsNone b → SpellsNoKey text
key_no_number text a b e h none name p ok f = none p.0 (key_parts text a b name p e h ok f).1

-- nor without a name before it
pub key_no_name : (text a b : List ℕ) → text ≡ a ++ 64 ∷ b → is_without 64 a ≡ true → is_name a ≡ false → SpellsNoKey text
key_no_name text a b e h none name p ok f = one_answer a name (key_parts text a b name p e h ok f).0 ok none

-- a key whose partition has too great a number
pub key_too_great : (text a b name : List ℕ) → text ≡ a ++ 64 ∷ b → name ≡ a → is_name name ≡ true → Spells 256 b None → SpellsKey text name None
key_too_great text a b name e same ok s =
    record {
      part = record { 0 = s.number };
      named = ok;
      text_is = e ∙ (λ i. sym same i ++ 64 ∷ s.text_is i) ∙ sym (key_text_is name (record { 0 = s.number }));
      kept_is = s.kept_is;
    }

-- the digit of a number from 0 to 15 is a digit, and has the number
digit_of : (n : ℕ) → n < 16 → (is_hex (hex_digit n) ≡ true) × (digit_number (hex_digit n) ≡ n)
digit_of n h = by_test (nat_lt n 10) refl
  where
    by_test : (t : Bool) → nat_lt n 10 ≡ t → (is_hex (hex_digit n) ≡ true) × (digit_number (hex_digit n) ≡ n)
    by_test true e = let low : n < 10 = grind (arith, nat_tests) in (rw e (grind (arith, nat_tests)), rw e (grind (arith, nat_tests)))
    by_test false e = let high : 10 ≤ n = grind (arith, nat_tests) in (rw e (grind (arith, nat_tests)), rw e (grind (arith, nat_tests)))

-- a digit is that of its number, which is from 0 to 15
digit_again : (c : ℕ) → is_hex c ≡ true → (hex_digit (digit_number c) ≡ c) × (digit_number c < 16)
digit_again c e = by_test (nat_lt c 97) refl
  where
    by_test : (t : Bool) → nat_lt c 97 ≡ t → (hex_digit (digit_number c) ≡ c) × (digit_number c < 16)
    by_test true t =
        let low : c < 97 = grind (arith, nat_tests) in
        let range : (48 ≤ c) × (c ≤ 57) = (grind (arith, nat_tests), grind (arith, nat_tests)) in
        let small : nat_lt (c - 48) 10 ≡ true = grind (arith, nat_tests) in
        (rw (t, small) (omega arith), rw t (omega arith))
    by_test false t =
        let high : 97 ≤ c = grind (arith, nat_tests) in
        let range : c ≤ 102 = grind (arith, nat_tests) in
        let small : nat_lt (c - 87) 10 ≡ false = grind (arith, nat_tests) in
        (rw (t, small) (omega arith), rw t (omega arith))

-- two digits write one byte
pair_again : (high low : ℕ) → is_hex high ≡ true → is_hex low ≡ true → (hex_byte (digit_number high * 16 + digit_number low) ≡ high ∷ low ∷ []) × (digit_number high * 16 + digit_number low < 256)
pair_again high low e f =
    let h = digit_again high e in
    let l = digit_again low f in
    let a = digit_number high in
    let b = digit_number low in
    let first : (a * 16 + b) / 16 ≡ a = omega (arith, l.1) in
    let second : (a * 16 + b) % 16 ≡ b = omega (arith, l.1) in
    (rw (first, second, h.0, l.0) refl, omega (arith, h.1, l.1))

-- digits in pairs
pub record ArePairs (ds bytes : List ℕ) : Type 0 where
  pub again : flat_map hex_byte bytes ≡ ds
  pub are_bytes : AreBytes bytes
  pub half : 2 * length bytes ≡ length ds

-- an even number of digits are those of bytes
pub pairs_again : (ds : List ℕ) → list_all is_hex ds ≡ true → length ds % 2 ≡ 0 → ArePairs ds (paired ds)
pairs_again [] e even = record { again = refl; are_bytes = refl; half = refl }
pairs_again (a ∷ []) e even = absurd (omega arith)
pairs_again (a ∷ b ∷ cs) e even =
    let p = and_parts (is_hex a) (list_all is_hex (b ∷ cs)) e in
    let q = and_parts (is_hex b) (list_all is_hex cs) p.1 in
    let k = pair_again a b p.0 q.0 in
    let r = pairs_again cs q.1 (omega arith) in
    record {
      again = λ i. k.0 i ++ r.again i;
      are_bytes = and_from _ _ (grind (arith, nat_tests, k.1)) r.are_bytes;
      half = omega (arith, r.half);
    }

-- the digits of bytes are digits, two for each
pub bytes_digits : (bytes : List ℕ) → AreBytes bytes → (list_all is_hex (flat_map hex_byte bytes) ≡ true) × (length (flat_map hex_byte bytes) ≡ 2 * length bytes)
bytes_digits [] e = (refl, refl)
bytes_digits (b ∷ bs) e =
    let p = and_parts (nat_lt b 256) (list_all (λ c. nat_lt c 256) bs) e in
    let small : b < 256 = grind (arith, nat_tests) in
    let r = bytes_digits bs p.1 in
    (and_from _ _ (digit_of (b / 16) (omega arith)).0 (and_from _ _ (digit_of (b % 16) (omega arith)).0 r.0), omega (arith, r.1))

-- no byte string has digits of an odd number
pub odd_none : (text ds : List ℕ) → text ≡ 120 ∷ ds → ¬ (length ds % 2 ≡ 0) → SpellsNoBytes text
odd_none text ds e odd bytes ok f =
    let rest : ds ≡ flat_map hex_byte bytes = cc in
    odd (omega (arith, (bytes_digits bytes ok).1, ap length rest))

-- nor others than digits
pub other_none : (text ds : List ℕ) → text ≡ 120 ∷ ds → list_all is_hex ds ≡ false → SpellsNoBytes text
other_none text ds e other bytes ok f =
    let rest : ds ≡ flat_map hex_byte bytes = cc in
    let all : list_all is_hex ds ≡ true = rw rest (bytes_digits bytes ok).0 in
    absurd (cc)

-- digits are those of a byte string
pub bytes_kept : (text ds : List ℕ) (kept : Option (List ℕ)) → text ≡ 120 ∷ ds → list_all is_hex ds ≡ true → length ds % 2 ≡ 0 → kept ≡ Some (paired ds) → length ds ≤ 128 → SpellsBytes text kept
bytes_kept text ds kept e all even is few =
    let k = pairs_again ds all even in
    subst (SpellsBytes text) (sym is) (record {
      bytes = paired ds;
      are_bytes = k.are_bytes;
      text_is = e ∙ ap (λ xs. 120 ∷ xs) (sym k.again);
      kept_is = (omega (arith, k.half), refl);
    })

-- more than 128 digits are those of more than 64 bytes
pub bytes_too_many : (text ds : List ℕ) → text ≡ 120 ∷ ds → list_all is_hex ds ≡ true → length ds % 2 ≡ 0 → 128 < length ds → SpellsBytes text None
bytes_too_many text ds e all even many =
    let k = pairs_again ds all even in
    record {
      bytes = paired ds;
      are_bytes = k.are_bytes;
      text_is = e ∙ ap (λ xs. 120 ∷ xs) (sym k.again);
      kept_is = λ h. omega (arith, k.half);
    }

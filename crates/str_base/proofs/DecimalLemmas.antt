-- Decimals: each number has one spelling, of digits alone.
use Rattle.std.proofs.Common.{◌≡◌, ◌≢◌, ◌⊎◌, inl, inr, ℕ, zero, suc, ◌+◌, ◌<◌, ◌≤◌, ◌^◌, Bool, true, false, List, [], ◌∷◌, length, get_or, drop, take, take_all, length-drop, ◌-◌, Result, Ok, Err, Option, Some, None, IfSome, ℤ, pos, negsuc, FitsSigned, w64, decimal, refl, sym, ap, subst, ◌∙◌, ◌||◌, ◌==◌, not, add-one, arith}
use Rattle.std.specs.Char.{is_ascii_digit}
use Rattle.std.specs.Fmt.{signed_decimal}
use Rattle.std.specs.List.{list_all}
use Rattle.std.specs.Str.{IsUtf8}
use Rattle.std.proofs.lemmas.Str.{IsUtf8-from_ascii}
use Rattle.std.specs.Str.Parse.{AllDigits, IsNumeral, ParsesUnsigned, digits_value}
use Rattle.std.specs.Result.{OkIff, result_ok}
use Rattle.std.proofs.lemmas.Bool.{and_from, or_right}
use Rattle.std.proofs.lemmas.Bool.Decides.{nat_tests}
use Rattle.str_base.proofs.Lists.{list_all-weaker}
use Rattle.str_base.proofs.Tests.{other_by_test}
use Rattle.std.proofs.lemmas.Fmt.{decimal_injective, signed_decimal_injective, decimal_nonempty, decimal_is_IsNumeral, decimal_digit, first_decimal, parse-decimal, decimal-digits_value, IsAscii-decimal}
use Rattle.std.proofs.lemmas.Str.Parse.{digit_from_value, numerals_by_value, tells_digits, parse_plain}

-- two numbers of one spelling are one
pub decimal-injective : (m n : ℕ) → m < 2 ^ 64 → n < 2 ^ 64 → decimal m ≡ decimal n → m ≡ n
decimal-injective = decimal_injective

-- the same of signed numbers
pub signed_decimal-injective : (y z : ℤ) → FitsSigned w64 y → FitsSigned w64 z → signed_decimal y ≡ signed_decimal z → y ≡ z
signed_decimal-injective y z f g e = signed_decimal_injective y z f.sfits g.sfits e

-- a spelling is not empty
pub decimal-nonempty : (n : ℕ) → n < 2 ^ 64 → 1 ≤ length (decimal n)
decimal-nonempty n h = omega (arith, decimal_nonempty n h)

pub signed_decimal-nonempty : (z : ℤ) → FitsSigned w64 z → 1 ≤ length (signed_decimal z)
signed_decimal-nonempty (pos n) f = omega (arith, decimal_nonempty n (omega (arith, f.sfits)))
signed_decimal-nonempty (negsuc n) f = omega arith

-- where a test holds of each byte and not of c, no byte is c
pub list_all-other : (p : ℕ → Bool) (c : ℕ) → p c ≡ false → (bs : List ℕ) → list_all p bs ≡ true → list_all (λ b. not (b == c)) bs ≡ true
list_all-other p c no_c = list_all-weaker p (λ b. not (b == c)) (λ b yes_b. other_by_test p b c yes_b no_c)

digit_passes : (c : ℕ) → 48 ≤ c → c ≤ 57 → is_ascii_digit c ≡ true
digit_passes c low high = grind (arith, nat_tests)

all_digits : (bs : List ℕ) → AllDigits 10 bs → list_all is_ascii_digit bs ≡ true
all_digits [] h = refl
all_digits (c ∷ cs) h =
    let first = digit_from_value c h.0 in
    and_from (is_ascii_digit c) (list_all is_ascii_digit cs) (digit_passes c first.0 first.1) (all_digits cs h.1)

-- each byte of a spelling is a digit
pub decimal-digits : (n : ℕ) → n < 2 ^ 64 → list_all is_ascii_digit (decimal n) ≡ true
decimal-digits n h = all_digits (decimal n) (decimal_is_IsNumeral n h).0.1

-- the byte may stand in the spelling of a signed number
abbrev pub is_sign_or_digit : ℕ → Bool
is_sign_or_digit b = (b == 45) || is_ascii_digit b

digit_may_stand : (b : ℕ) → is_ascii_digit b ≡ true → is_sign_or_digit b ≡ true
digit_may_stand b e = or_right (b == 45) (is_ascii_digit b) e

-- each byte of a signed spelling is a digit or the minus
pub signed_decimal-digits : (z : ℤ) → FitsSigned w64 z → list_all is_sign_or_digit (signed_decimal z) ≡ true
signed_decimal-digits (pos n) f =
    list_all-weaker is_ascii_digit is_sign_or_digit digit_may_stand (decimal n) (decimal-digits n (omega (arith, f.sfits)))
signed_decimal-digits (negsuc n) f =
    list_all-weaker is_ascii_digit is_sign_or_digit digit_may_stand (decimal (suc n)) (decimal-digits (suc n) (omega (arith, f.sfits)))

-- no byte that is not a digit stands in a spelling, as 32, 10 and 64
pub decimal-without : (c n : ℕ) → is_ascii_digit c ≡ false → n < 2 ^ 64 → list_all (λ b. not (b == c)) (decimal n) ≡ true
decimal-without c n no_digit h = list_all-other is_ascii_digit c no_digit (decimal n) (decimal-digits n h)

-- the same of signed numbers
pub signed_decimal-without : (c : ℕ) (z : ℤ) → is_sign_or_digit c ≡ false → FitsSigned w64 z → list_all (λ b. not (b == c)) (signed_decimal z) ≡ true
signed_decimal-without c z no_digit f = list_all-other is_sign_or_digit c no_digit (signed_decimal z) (signed_decimal-digits z f)

-- a spelling begins with a digit
pub spelling_first : (n : ℕ) (bs : List ℕ) → n < 2 ^ 64 → decimal n ≡ bs → (48 ≤ get_or bs 0 0) × (get_or bs 0 0 ≤ 57)
spelling_first n bs h e = subst (λ ds. (48 ≤ get_or ds 0 0) × (get_or ds 0 0 ≤ 57)) e (begins (decimal n) (decimal_is_IsNumeral n h).0)
  where
    begins : (ds : List ℕ) → IsNumeral 10 ds → (48 ≤ get_or ds 0 0) × (get_or ds 0 0 ≤ 57)
    begins [] d = absurd (omega arith)
    begins (c ∷ cs) d = digit_from_value c d.1.0

-- it is a zero, or its first byte is above zero
pub spelling_starts : (n : ℕ) (bs : List ℕ) → n < 2 ^ 64 → decimal n ≡ bs → (bs ≡ 48 ∷ []) ⊎ (48 < get_or bs 0 0)
spelling_starts zero bs h e = inl (sym e ∙ decimal_digit 0 (omega arith))
spelling_starts (suc n) bs h e = inr (omega (arith, first_decimal (suc n) (omega arith) h, ap (λ ds. get_or ds 0 0) e))

-- what `parse` reads of a text that starts so is the number that it spells
pub parsed_spells : {E : Type 0} (bs : List ℕ) (r : Result ℕ E) (n : ℕ) → ParsesUnsigned 64 10 bs r → (bs ≡ 48 ∷ []) ⊎ (48 < get_or bs 0 0) → r ≡ Ok n → decimal n ≡ bs
parsed_spells bs r n h start is =
    let own = numerals_by_value _ tells_digits in
    let plain = parse_plain own 64 bs r h (no_plus start) in
    let k = subst (λ q. OkIff q (AllDigits 10 bs × (0 < length bs) × (digits_value 10 bs < 2 ^ 64)) (digits_value 10 bs)) is plain in
    ap decimal k.1 ∙ decimal-digits_value own bs k.0.0 k.0.1 (alone start) k.0.2
  where
    no_plus : (bs ≡ 48 ∷ []) ⊎ (48 < get_or bs 0 0) → get_or bs 0 0 ≢ 43
    no_plus (inl zero_alone) = λ e. omega (arith, ap (λ ds. get_or ds 0 0) zero_alone)
    no_plus (inr above) = λ e. omega arith

    alone : (bs ≡ 48 ∷ []) ⊎ (48 < get_or bs 0 0) → get_or bs 0 0 ≡ 48 → length bs ≡ 1
    alone (inl zero_alone) e = ap length zero_alone
    alone (inr above) e = absurd (omega arith)

some_ok : {E : Type 0} (r : Result ℕ E) (n : ℕ) → Some n ≡ result_ok r → r ≡ Ok n
some_ok (Ok m) n e = cc
some_ok (Err x) n e = absurd (cc)

-- the same of a copy of the text, and of the number if there is one
pub parsed_spells_some : {E : Type 0} (bs text : List ℕ) (r : Result ℕ E) (o : Option ℕ) → ParsesUnsigned 64 10 bs r → bs ≡ text → (text ≡ 48 ∷ []) ⊎ (48 < get_or text 0 0) → o ≡ result_ok r → IfSome o (λ n. decimal n ≡ text)
parsed_spells_some bs text r None h same start is = tt
parsed_spells_some bs text r (Some n) h same start is = parsed_spells text r n (rw same at h) start (some_ok r n is)

-- `parse` reads a spelling
pub spelling_parsed : {E : Type 0} (bs : List ℕ) (r : Result ℕ E) → ParsesUnsigned 64 10 bs r → (n : ℕ) → n < 2 ^ 64 → decimal n ≡ bs → r ≡ Ok n
spelling_parsed bs r h n small e = parse-decimal 64 n bs r small small (sym e) h

-- a spelling is a text
pub spelling-IsUtf8 : (n : ℕ) (bs : List ℕ) → n < 2 ^ 64 → decimal n ≡ bs → IsUtf8 bs
spelling-IsUtf8 n bs h e = subst IsUtf8 e (IsUtf8-from_ascii (decimal n) (IsAscii-decimal n h))

-- where a minus begins the spelling of a number, the digits of its opposite follow
pub spelling_after_minus : (z : ℤ) (bs : List ℕ) → FitsSigned w64 z → signed_decimal z ≡ bs → get_or bs 0 0 ≡ 45 → (k : ℕ) × (k < 2 ^ 63) × (decimal (k + 1) ≡ take (length bs - 1) (drop 1 bs))
spelling_after_minus (pos n) bs f e minus = absurd (omega (arith, f.sfits, spelling_first n bs (omega (arith, f.sfits)) e))
spelling_after_minus (negsuc n) bs f e minus =
    let after : decimal (n + 1) ≡ drop 1 bs = rw add-one (ap (drop 1) e) in
    (n, omega (arith, f.sfits), after ∙ sym (take_all (length bs - 1) (drop 1 bs) (omega (arith, length-drop 1 bs))))

-- else the number is its digits'
pub spelling_with_no_minus : (z : ℤ) (bs : List ℕ) → FitsSigned w64 z → signed_decimal z ≡ bs → get_or bs 0 0 ≢ 45 → (n : ℕ) × (n < 2 ^ 63) × (decimal n ≡ bs)
spelling_with_no_minus (pos n) bs f e plain = (n, omega (arith, f.sfits), e)
spelling_with_no_minus (negsuc n) bs f e plain = absurd (plain (sym (ap (λ ds. get_or ds 0 0) e)))

-- Decimals of any size: each number has one, of digits alone, and digits without a leading zero are one.
use Rattle.std.proofs.Common.{List, [], ap, append_assoc, arith, decimal, false, get_or, map, refl, suc, sym, true, zero, ℕ, ℤ, pos, negsuc, inl, inr, ◌*◌, ◌++◌, ◌+◌, ◌-◌, ◌/◌, ◌%◌, ◌<◌, ◌==◌, ◌^◌, ◌∙◌, ◌∷◌, ◌≡◌, ◌≤◌, ◌⊎◌, not}
use Rattle.std.proofs.lemmas.Bool.{and_from, and_parts}
use Rattle.str_base.proofs.DecimalLemmas.{list_all-other}
use Rattle.std.proofs.lemmas.Bool.Decides.{nat_tests}
use Rattle.std.proofs.lemmas.Fmt.{decimal-digits_of, decimal_digit}
use Rattle.std.proofs.lemmas.Int.Digits.{all_below_base_digits_of, digits_of_step, first_digits_of, number_after_ge, same_from_digits_of}
use Rattle.std.proofs.lemmas.List.{append-nil}
use Rattle.std.specs.Char.{is_ascii_digit}
use Rattle.std.specs.Fmt.{signed_decimal}
use Rattle.std.specs.Int.Digits.{AllBelowBase, digits_of, number_from_digits, number_from_digits_after}
use Rattle.std.specs.List.{list_all}
use Rattle.scene_text.specs.Numerals.{numeral, signed_numeral}
use Rattle.str_scene.specs.SceneLimits.{IsNumber}

-- the decimal of zero
pub numeral-zero : numeral 0 ≡ 48 ∷ []
unfolding numeral
numeral-zero = refl

-- the decimal of a number above zero
pub numeral-above : (n : ℕ) → 0 < n → numeral n ≡ map (λ d. 48 + d) (digits_of 10 n)
unfolding numeral
numeral-above n h =
    let no : (n == 0) ≡ false = grind (arith, nat_tests) in
    rw no refl

-- a number of 64 bits has the decimal that is written of it
pub numeral-decimal : (n : ℕ) → n < 2 ^ 64 → numeral n ≡ decimal n
numeral-decimal zero h = numeral-zero ∙ sym (decimal_digit 0 (omega arith))
numeral-decimal (suc n) h = numeral-above (suc n) (omega arith) ∙ sym (decimal-digits_of (suc n) (omega arith) h)

-- the same of signed numbers
pub signed_numeral-decimal : (z : ℤ) → IsNumber z → signed_numeral z ≡ signed_decimal z
signed_numeral-decimal (pos n) h = numeral-decimal n (omega arith)
signed_numeral-decimal (negsuc n) h = ap (λ ds. 45 ∷ ds) (numeral-decimal (suc n) (omega arith))

digit_passes : (d : ℕ) → d < 10 → is_ascii_digit (48 + d) ≡ true
digit_passes d h = grind (arith, nat_tests)

all_digits : (ds : List ℕ) → AllBelowBase 10 ds → list_all is_ascii_digit (map (λ d. 48 + d) ds) ≡ true
all_digits [] h = refl
all_digits (d ∷ ds) h = and_from _ _ (digit_passes d h.0) (all_digits ds h.1)

-- each byte of a decimal is a digit
pub numeral-digits : (n : ℕ) → list_all is_ascii_digit (numeral n) ≡ true
numeral-digits zero = rw numeral-zero refl
numeral-digits (suc n) =
    rw (numeral-above (suc n) (omega arith)) (all_digits (digits_of 10 (suc n)) (all_below_base_digits_of 10 (suc n) (omega arith)))

first_above : (ds : List ℕ) → 0 < get_or ds 0 0 → 48 < get_or (map (λ d. 48 + d) ds) 0 0
first_above [] h = absurd (omega arith)
first_above (d ∷ ds) h = omega arith

-- it is a zero alone, or begins with a byte above zero
pub numeral_starts : (n : ℕ) → (numeral n ≡ 48 ∷ []) ⊎ (48 < get_or (numeral n) 0 0)
numeral_starts zero = inl numeral-zero
numeral_starts (suc n) =
    inr (rw (numeral-above (suc n) (omega arith)) (first_above (digits_of 10 (suc n)) (first_digits_of 10 (suc n) (omega arith) (omega arith))))

-- the numbers that the digits write
abbrev values : List ℕ → List ℕ
values bs = map (λ c. c - 48) bs

-- the number that digits write
abbrev pub number_of_digits : List ℕ → ℕ
number_of_digits bs = number_from_digits 10 (values bs)

digit_is : (c : ℕ) → is_ascii_digit c ≡ true → (48 ≤ c) × (c ≤ 57)
digit_is c e = (grind (arith, nat_tests), grind (arith, nat_tests))

-- a digit's number gives the digit again
digits_again : (bs : List ℕ) → list_all is_ascii_digit bs ≡ true → map (λ d. 48 + d) (values bs) ≡ bs
digits_again [] e = refl
digits_again (c ∷ cs) e =
    let p = and_parts (is_ascii_digit c) (list_all is_ascii_digit cs) e in
    let d = digit_is c p.0 in
    let same : 48 + (c - 48) ≡ c = omega arith in
    rw (same, digits_again cs p.1) refl

values_below : (bs : List ℕ) → list_all is_ascii_digit bs ≡ true → AllBelowBase 10 (values bs)
values_below [] e = tt
values_below (c ∷ cs) e =
    let p = and_parts (is_ascii_digit c) (list_all is_ascii_digit cs) e in
    let d = digit_is c p.0 in
    (omega arith, values_below cs p.1)

-- more digits after those of a number
digits_after : (m : ℕ) (ds : List ℕ) → 0 < m → AllBelowBase 10 ds → digits_of 10 (number_from_digits_after 10 m ds) ≡ digits_of 10 m ++ ds
digits_after m [] h all = sym (append-nil (digits_of 10 m))
digits_after m (d ∷ ds) h all =
    let n : ℕ = m * 10 + d in
    let small : d < 10 = all.0 in
    let front : n / 10 ≡ m = omega arith in
    let end : n % 10 ≡ d = omega arith in
    digits_after n ds (omega arith) all.1
    ∙ ap (λ xs. xs ++ ds) (digits_of_step 10 n (omega arith) (omega arith) ∙ (λ i. digits_of 10 (front i) ++ (end i ∷ [])))
    ∙ append_assoc (digits_of 10 m) (d ∷ []) ds

-- the digits of one digit
one_digit : (d : ℕ) → 0 < d → d < 10 → digits_of 10 d ≡ d ∷ []
one_digit d h small =
    let front : d / 10 ≡ 0 = omega arith in
    let end : d % 10 ≡ d = omega arith in
    digits_of_step 10 d (omega arith) h ∙ (λ i. digits_of 10 (front i) ++ (end i ∷ []))

-- digits that begin above zero are those of the number that they write
digits_of_number : (d : ℕ) (ds : List ℕ) → 0 < d → AllBelowBase 10 (d ∷ ds) → digits_of 10 (number_from_digits 10 (d ∷ ds)) ≡ d ∷ ds
digits_of_number d ds h all =
    let first : 0 * 10 + d ≡ d = omega arith in
    ap (λ m. digits_of 10 (number_from_digits_after 10 m ds)) first
    ∙ (digits_after d ds h all.1 ∙ ap (λ xs. xs ++ ds) (one_digit d h all.0))

-- digits that are a zero alone or begin above zero are the decimal of the number that they write
pub numeral_of_digits : (bs : List ℕ) → list_all is_ascii_digit bs ≡ true → (bs ≡ 48 ∷ []) ⊎ (48 < get_or bs 0 0) → (n : ℕ) × (bs ≡ numeral n)
numeral_of_digits bs e (inl zero_alone) = (0, zero_alone ∙ sym numeral-zero)
numeral_of_digits [] e (inr above) = absurd (omega arith)
numeral_of_digits (c ∷ cs) e (inr above) =
    let all = values_below (c ∷ cs) e in
    let first : 0 < c - 48 = omega arith in
    let n : ℕ = number_from_digits 10 (values (c ∷ cs)) in
    let some : 0 < n = omega (arith, number_after_ge 10 (0 * 10 + (c - 48)) (values cs) (omega arith)) in
    (n, sym (numeral-above n some ∙ (ap (map (λ d. 48 + d)) (digits_of_number (c - 48) (values cs) first all) ∙ digits_again (c ∷ cs) e)))

map_same : (ds es : List ℕ) → map (λ d. 48 + d) ds ≡ map (λ d. 48 + d) es → ds ≡ es
map_same [] [] e = refl
map_same [] (x ∷ es) e = absurd (cc)
map_same (d ∷ ds) [] e = absurd (cc)
map_same (d ∷ ds) (x ∷ es) e =
    let rest : ds ≡ es = map_same ds es cc in
    let first : 48 + d ≡ 48 + x = cc in
    let same : d ≡ x = omega arith in
    cc (same, rest)

-- only zero begins with a zero
zero_first : (n : ℕ) → 0 < n → numeral n ≡ 48 ∷ [] → ⊥
zero_first n h e =
    omega (arith, ap (λ ds. get_or ds 0 0) (sym (numeral-above n h) ∙ e), first_above (digits_of 10 n) (first_digits_of 10 n (omega arith) h))

-- two numbers of one decimal are one
pub numeral-injective : (m n : ℕ) → numeral m ≡ numeral n → m ≡ n
numeral-injective zero zero e = refl
numeral-injective zero (suc n) e = absurd (zero_first (suc n) (omega arith) (sym e ∙ numeral-zero))
numeral-injective (suc m) zero e = absurd (zero_first (suc m) (omega arith) (e ∙ numeral-zero))
numeral-injective (suc m) (suc n) e =
    same_from_digits_of 10 (suc m) (suc n) (omega arith) (map_same _ _ (sym (numeral-above (suc m) (omega arith)) ∙ (e ∙ numeral-above (suc n) (omega arith))))

-- a decimal begins with a digit
pub numeral_first : (n : ℕ) → (48 ≤ get_or (numeral n) 0 0) × (get_or (numeral n) 0 0 ≤ 57)
numeral_first n = begins (numeral n) (numeral_starts n) (numeral-digits n)
  where
    begins : (ds : List ℕ) → (ds ≡ 48 ∷ []) ⊎ (48 < get_or ds 0 0) → list_all is_ascii_digit ds ≡ true → (48 ≤ get_or ds 0 0) × (get_or ds 0 0 ≤ 57)
    begins [] (inl s) e = absurd (cc)
    begins [] (inr s) e = absurd (omega arith)
    begins (c ∷ cs) s e = digit_is c (and_parts (is_ascii_digit c) (list_all is_ascii_digit cs) e).0

-- the same of signed numbers: two of one decimal are one
pub signed_numeral-injective : (y z : ℤ) → signed_numeral y ≡ signed_numeral z → y ≡ z
signed_numeral-injective (pos m) (pos n) e = ap pos (numeral-injective m n e)
signed_numeral-injective (pos m) (negsuc n) e = absurd (omega (arith, numeral_first m, ap (λ ds. get_or ds 0 0) e))
signed_numeral-injective (negsuc m) (pos n) e = absurd (omega (arith, numeral_first n, ap (λ ds. get_or ds 0 0) e))
signed_numeral-injective (negsuc m) (negsuc n) e =
    let rest : numeral (suc m) ≡ numeral (suc n) = cc in
    let same : suc m ≡ suc n = numeral-injective (suc m) (suc n) rest in
    ap negsuc (omega arith)

-- no byte that is not a digit stands in a decimal
pub numeral-without : (c n : ℕ) → is_ascii_digit c ≡ false → list_all (λ b. not (b == c)) (numeral n) ≡ true
numeral-without c n no_digit = list_all-other is_ascii_digit c no_digit (numeral n) (numeral-digits n)

-- and but for the minus in a signed one
pub signed_numeral-without : (c : ℕ) (z : ℤ) → is_ascii_digit c ≡ false → not (45 == c) ≡ true → list_all (λ b. not (b == c)) (signed_numeral z) ≡ true
signed_numeral-without c (pos n) no_digit no_minus = numeral-without c n no_digit
signed_numeral-without c (negsuc n) no_digit no_minus = and_from _ _ no_minus (numeral-without c (suc n) no_digit)

-- What is kept of the numbers that are read.
use Rattle.std.proofs.Common.{Bool, IsTrue, false, not, true, FitsSigned, IfSome, IsNone, List, None, Option, Some, [], ap, arith, decimal, get_or, negsuc, pos, refl, sym, suc, subst, w64, zero, ℕ, ℤ, ◌<◌, ◌^◌, ◌∙◌, ◌∷◌, ◌≡◌, ◌≢◌}
use Rattle.std.specs.Fmt.{signed_decimal}
use Rattle.scene_text.proofs.Spelling.Numerals.{numeral-decimal, numeral-injective, numeral-zero, numeral_first, signed_numeral-decimal, signed_numeral-injective}
use Rattle.scene_text.specs.LineReading.{Spells, SpellsNoSigned, SpellsNone, SpellsSigned}
use Rattle.scene_text.specs.Numerals.{numeral, signed_numeral}
use Rattle.str_scene.specs.SceneLimits.{IsNumber}

-- a number below 2 ^ 64 is kept, and no other
pub kept_number : (text : List ℕ) (o : Option ℕ) → (n : ℕ) × (text ≡ numeral n) → IfSome o (λ m. decimal m ≡ text) → (IsNone o → (n : ℕ) → n < 2 ^ 64 → ¬ (decimal n ≡ text)) → IfSome o (λ m. m < 2 ^ 64) → Spells (2 ^ 64) text o
kept_number text None k value none small =
    record { number = k.0; text_is = k.1; kept_is = λ h. none refl k.0 h (sym (numeral-decimal k.0 h) ∙ sym k.1) }
kept_number text (Some m) k value none small =
    let same : m ≡ k.0 = numeral-injective m k.0 (numeral-decimal m small ∙ (value ∙ k.1)) in
    record { number = k.0; text_is = k.1; kept_is = (omega arith, same) }

-- a number of 64 bits with a sign fits them
pub number_fits : (n : ℤ) → IsNumber n → FitsSigned w64 n
number_fits (pos n) h = record { sfits = h }
number_fits (negsuc n) h = record { sfits = h }

-- and the other way round
pub fits_number : (n : ℤ) → FitsSigned w64 n → IsNumber n
fits_number (pos n) h = h.sfits
fits_number (negsuc n) h = h.sfits

-- a signed number of 64 bits is kept, and no other
pub kept_signed : (text : List ℕ) (o : Option ℤ) → (z : ℤ) × (text ≡ signed_numeral z) → IfSome o (λ z. signed_decimal z ≡ text) → (IsNone o → (z : ℤ) → FitsSigned w64 z → ¬ (signed_decimal z ≡ text)) → IfSome o (λ z. FitsSigned w64 z) → SpellsSigned text o
kept_signed text None k value none small =
    record { number = k.0; text_is = k.1; kept_is = λ h. none refl k.0 (number_fits k.0 h) (sym (signed_numeral-decimal k.0 h) ∙ sym k.1) }
kept_signed text (Some m) k value none small =
    let h : IsNumber m = fits_number m small in
    let same : m ≡ k.0 = signed_numeral-injective m k.0 (signed_numeral-decimal m h ∙ (value ∙ k.1)) in
    record { number = k.0; text_is = k.1; kept_is = (subst IsNumber same h, same) }

-- a minus, and the decimal of a number that is not 0
pub minus_number : (text digits : List ℕ) → (n : ℕ) × (digits ≡ numeral n) → digits ≢ 48 ∷ [] → text ≡ 45 ∷ digits → (z : ℤ) × (text ≡ signed_numeral z)
minus_number text digits (zero, e) other is = absurd (other (e ∙ numeral-zero))
minus_number text digits (suc n, e) other is = (negsuc n, is ∙ ap (λ ds. 45 ∷ ds) e)

-- no number is spelled by a minus and a zero
pub minus_zero : (text digits : List ℕ) → digits ≡ 48 ∷ [] → text ≡ 45 ∷ digits → SpellsNoSigned text
minus_zero text digits zero_alone is (pos n) e = absurd (omega (arith, numeral_first n, ap (λ ds. get_or ds 0 0) (sym is ∙ e)))
minus_zero text digits zero_alone is (negsuc n) e =
    let rest : digits ≡ numeral (suc n) = cc in
    let no : suc n ≡ 0 = numeral-injective (suc n) 0 (sym rest ∙ (zero_alone ∙ sym numeral-zero)) in
    absurd (omega arith)

-- nor by a minus and what is no number
pub minus_none : (text digits : List ℕ) → SpellsNone digits → text ≡ 45 ∷ digits → SpellsNoSigned text
minus_none text digits none is (pos n) e = absurd (omega (arith, numeral_first n, ap (λ ds. get_or ds 0 0) (sym is ∙ e)))
minus_none text digits none is (negsuc n) e = none (suc n) cc

-- a number without a minus
pub plain_number : (text : List ℕ) → (n : ℕ) × (text ≡ numeral n) → (z : ℤ) × (text ≡ signed_numeral z)
plain_number text k = (pos k.0, k.1)

-- and what is none
pub plain_none : (text : List ℕ) → SpellsNone text → ((rest : List ℕ) → ¬ (text ≡ 45 ∷ rest)) → SpellsNoSigned text
plain_none text none no_minus (pos n) e = none n e
plain_none text none no_minus (negsuc n) e = no_minus (numeral (suc n)) e

-- a test and its opposite
pub true_not : (b : Bool) → IsTrue (not b) → IsTrue b → ⊥
true_not true t u = absurd (cc)
true_not false t u = absurd (cc)
